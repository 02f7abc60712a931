-- Runs of a list: two that stand side by side, all of them, and one that is the whole list. Assumes nothing.
use mathlib.Core.Path.{◌≡◌, refl, sym, ap, ◌∙◌}
use mathlib.Core.List.{List, [], ◌∷◌, ◌++◌, append_assoc}
use mathlib.Core.Logic.{⊎_elim}
use Prim.Native.Nat.{ℕ, suc, ◌+◌, ◌-◌, ◌*◌, ◌≤◌, ◌<◌, min}
use native.Mathlib.Nat.{not-suc-le-zero, zero-mul, suc-mul, mul_assoc, mul-le-mul_right}
use native.Mathlib.Omega.{arith}
use lib.ListN.{length, take, drop, length-take, length-drop, drop_of_length-le}
use lib.Seq.{take_all, take-nil, take-add, drop-drop, sets-eq, ext_get_or}
use borrow.Rule.Slice.PartMut.{put_mid, Post-is}
use Rattle.util.specs.Pick.{le_or_lt}
use Rattle.le.specs.Le.{part, splice, length_splice, splice_below, splice_in, part_at}
use Rattle.ranks.specs.Rank.{rank_in, ranked}
use Rattle.ranks.specs.RankLaws.{Climbs, climbs_ranked}
use Rattle.ranks.specs.Merge.{rank_all, RunStart, RunsClimb, RunsJoin, RunsRanked}
use Rattle.ranks.proofs.Merging.{length_rank_all, ranked_append}

-- ---- parts of a list
module _ (l : List ℕ) (i : ℕ) where
  part_long : (w : ℕ) → length (part l i w) ≡ min w (length l - i)
  unfolding part
  part_long w = simp (length-take, length-drop) (omega arith)

  part_past : (w : ℕ) → length l ≤ i → part l i w ≡ []
  unfolding part
  part_past w h = rw (drop_of_length-le l {i = i} h) (take-nil w)

  part_cut : (m w : ℕ) → m ≡ min w (length l - i) → take m (drop i l) ≡ part l i w
  unfolding part
  part_cut m w e =
      let d : length (drop i l) ≡ length l - i = length-drop i l in
      ⊎_elim (λ h. let z : m ≡ w = omega arith in rw z) (λ h. take_all m (drop i l) (omega arith) ∙ sym (take_all w (drop i l) (omega arith))) (le_or_lt w (length l - i))

cut_long : (l : List ℕ) (i e : ℕ) → i ≤ e → e ≤ length l → length (take (e - i) (drop i l)) ≡ e - i
cut_long l i e h k = simp (length-take, length-drop) (omega arith)

apart : (a b c : ℕ) → a ≤ b → b ≤ c → c - a ≡ b - a + (c - b)
apart a b c h k = omega arith

-- ---- two runs side by side, as the code cuts them
module _ (a : List ℕ) (w lo n mid hi : ℕ) (q : n ≡ length a) (r : lo < length a) (p : mid ≡ min (lo + w) n) (s : hi ≡ min (mid + w) n) where
  run_first : take (mid - lo) (drop lo a) ≡ part a lo w
  run_first = part_cut a lo (mid - lo) w (omega arith)

  run_second : take (hi - mid) (drop mid a) ≡ part a (lo + w) w
  run_second =
      part_cut a mid (hi - mid) w (omega arith)
      ∙ ⊎_elim (λ h. let z : mid ≡ lo + w = omega arith in rw z) (λ h. part_past a mid w (omega arith) ∙ sym (part_past a (lo + w) w (omega arith))) (le_or_lt (lo + w) n)

  pub runs_long : (out : List ℕ) → length out ≡ length a
      → length (take (hi - lo) (drop lo out)) ≡ length (take (mid - lo) (drop lo a)) + length (take (hi - mid) (drop mid a))
  runs_long out e =
      let m : lo ≤ mid = omega arith in
      let k : mid ≤ hi = omega arith in
      let t : hi ≤ length a = omega arith in
      let x = cut_long out lo hi (omega arith) (omega arith) in
      let y = cut_long a lo mid m (omega arith) in
      let z = cut_long a mid hi k t in
      rw (x, y, z) (apart lo mid hi m k)

  module _ (key : ℕ → List ℕ) (late : ℕ → ℕ) where
    pub runs_first : Climbs key late (part a lo w) → Climbs key late (take (mid - lo) (drop lo a))
    runs_first c = rw run_first c

    pub runs_second : Climbs key late (part a (lo + w) w) → Climbs key late (take (hi - mid) (drop mid a))
    runs_second c = rw run_second c

    pub runs_put : (out ys : List ℕ) → length out ≡ length a → ys ≡ rank_all key late (take (mid - lo) (drop lo a)) (take (hi - mid) (drop mid a))
        → put_mid lo (hi - lo) out ys ≡ splice out lo (rank_all key late (part a lo w) (part a (lo + w) w))
    unfolding splice
    runs_put out ys e d =
        let vs = rank_all key late (part a lo w) (part a (lo + w) w) in
        let k : ys ≡ vs = d ∙ rw (run_first, run_second) in
        let x = length_rank_all key late (part a lo w) (part a (lo + w) w) in
        let y = part_long a lo w in
        let z = part_long a (lo + w) w in
        let m : lo + length vs ≡ hi = omega arith in
        rw (k, Post-is lo hi out (omega arith)) (sym (sets-eq vs out lo (omega arith) ∙ rw m (append_assoc (take lo out) vs (drop hi out))))

-- ---- where runs start
start_none : (w : ℕ) → RunStart w 0
start_none w = record { before = 0; is = sym (zero-mul w) }

start_next : (w at : ℕ) → RunStart w at → RunStart w (at + w)
start_next w at s = record { before = suc s.before; is = ap (λ (x : ℕ). x + w) s.is ∙ sym (suc-mul s.before w) }

start_half : (w at : ℕ) → RunStart (2 * w) at → RunStart w at
start_half w at s = record { before = s.before * 2; is = s.is ∙ sym (mul_assoc s.before 2 w) }

-- two that are not the same are a run apart
start_apart : (w i j : ℕ) → RunStart w i → RunStart w j → i < j → i + w ≤ j
start_apart w i j s t h =
    let e = s.is in
    let d = t.is in
    ⊎_elim (λ k. let m = mul-le-mul_right {m = t.before} {n = s.before} w k in omega arith)
    (λ k. let m = mul-le-mul_right {m = suc s.before} {n = t.before} w k in let z = suc-mul s.before w in omega arith)
    (le_or_lt t.before s.before)

-- ---- a run that is put leaves those before it
part_before : (l : List ℕ) (i : ℕ) (vs : List ℕ) (at w : ℕ) → at + w ≤ i → part (splice l i vs) at w ≡ part l at w
part_before l i vs at w h =
    let m = splice l i vs in
    let n = length_splice l i vs in
    let x = part_long m at w in
    let y = part_long l at w in
    ext_get_or 0 (part m at w) (part l at w) (x ∙ ap (λ (k : ℕ). min w (k - at)) n ∙ sym y)
    (λ k p. let q : k < w = omega arith in part_at m at w k q ∙ splice_below l i vs (at + k) (omega arith) ∙ sym (part_at l at w k q))

part_put_here : (l : List ℕ) (i : ℕ) (vs : List ℕ) (w : ℕ) → length vs ≡ min w (length l - i) → i ≤ length l → part (splice l i vs) i w ≡ vs
part_put_here l i vs w e h =
    let m = splice l i vs in
    let x : length (part m i w) ≡ length vs = part_long m i w ∙ ap (λ (k : ℕ). min w (k - i)) (length_splice l i vs) ∙ sym e in
    ext_get_or 0 (part m i w) vs x
    (λ k p. let q : k < length vs = rw x at p in part_at m i w k (omega arith) ∙ splice_in l i vs k q (omega arith))

-- ---- the loop over all pairs of runs: those before lo are done
pub record Passing (key : ℕ → List ℕ) (late : ℕ → ℕ) (w : ℕ) (a out : List ℕ) (lo : ℕ) : Type 0 where
  pub long : length out ≡ length a
  pub start : RunStart (2 * w) lo
  pub joins : (at : ℕ) → RunStart (2 * w) at → at < lo → part out at (2 * w) ≡ rank_all key late (part a at w) (part a (at + w) w)

module _ (key : ℕ → List ℕ) (late : ℕ → ℕ) (w : ℕ) (a out : List ℕ) where
  pub pass_none : length out ≡ length a → Passing key late w a out 0
  pass_none e = record { long = e; start = start_none (2 * w); joins = λ at s h. absurd (not-suc-le-zero h) }

  module _ (lo : ℕ) (p : Passing key late w a out lo) where
    pub pass_first : RunsClimb key late w a → Climbs key late (part a lo w)
    pass_first r = r.climbs lo (start_half w lo p.start)

    pub pass_second : RunsClimb key late w a → Climbs key late (part a (lo + w) w)
    pass_second r = r.climbs (lo + w) (start_next w lo (start_half w lo p.start))

    joined_long : length (rank_all key late (part a lo w) (part a (lo + w) w)) ≡ min (2 * w) (length out - lo)
    joined_long =
        let x = length_rank_all key late (part a lo w) (part a (lo + w) w) in
        let y = part_long a lo w in
        let z = part_long a (lo + w) w in
        let n = p.long in
        omega arith

    pub pass_again : (n : ℕ) (out' : List ℕ) → lo < n → n ≡ length a → out' ≡ splice out lo (rank_all key late (part a lo w) (part a (lo + w) w))
        → Passing key late w a out' (lo + 2 * w)
    pass_again n out' h q e =
        let vs = rank_all key late (part a lo w) (part a (lo + w) w) in
        let o = p.long in
        rw e
        (record {
          long = length_splice out lo vs ∙ o;
          start = start_next (2 * w) lo p.start;
          joins =
              λ at s k.
              ⊎_elim
              (λ (m : lo ≤ at).
              ⊎_elim
              (λ (g : at ≤ lo).
              let z : at ≡ lo = omega arith in
              rw z (part_put_here out lo vs (2 * w) joined_long (omega arith)))
              (λ (g : lo < at). let y = start_apart (2 * w) lo at p.start s g in absurd (omega arith))
              (le_or_lt at lo))
              (λ (m : at < lo). part_before out lo vs at (2 * w) (start_apart (2 * w) at lo s p.start m) ∙ p.joins at s m)
              (le_or_lt lo at);
        })

    pub pass_end : (n : ℕ) → n ≤ lo → n ≡ length a → RunsJoin key late w a out
    unfolding rank_all
    pass_end n h q =
        record {
          long = p.long;
          joins =
              λ at s.
              ⊎_elim
              (λ (m : lo ≤ at).
              let o = p.long in
              rw (part_past out at (2 * w) (omega arith), part_past a at w (omega arith), part_past a (at + w) w (omega arith)))
              (λ (m : at < lo). p.joins at s m)
              (le_or_lt lo at);
        }

pub ruleset pass_loop = (pass_none, pass_first, pass_second, pass_again, pass_end)

-- ---- all passes: l is the list as it was
module _ (key : ℕ → List ℕ) (late : ℕ → ℕ) where
  ranked_one : (l : List ℕ) → length l ≤ 1 → l ≡ ranked key late l
  unfolding ranked rank_in
  ranked_one [] h = refl
  ranked_one (x ∷ []) h = refl
  ranked_one (x ∷ y ∷ ys) h = absurd (omega arith)

  pub runs_none : (l : List ℕ) → RunsRanked key late 1 l l
  runs_none l = record { long = refl; runs = λ at s. ranked_one (part l at 1) (let x = part_long l at 1 in omega arith) }

  pub runs_climb : (w : ℕ) (l a : List ℕ) → RunsRanked key late w l a → RunsClimb key late w a
  runs_climb w l a r = record { climbs = λ at s. rw (r.runs at s) (climbs_ranked key late (part l at w)) }

  module _ (w : ℕ) (l a : List ℕ) (r : RunsRanked key late w l a) where
    part_twice : (at : ℕ) → part l at (2 * w) ≡ part l at w ++ part l (at + w) w
    unfolding part
    part_twice at =
        let e : 2 * w ≡ w + w = omega arith in
        rw e (take-add w w (drop at l) ∙ ap (λ (m : List ℕ). take w (drop at l) ++ take w m) (drop-drop w at l))

    runs_joined : (b : List ℕ) → RunsJoin key late w a b → RunsRanked key late (2 * w) l b
    runs_joined b j =
        record {
          long = j.long ∙ r.long;
          runs =
              λ at s.
              let t = start_half w at s in
              j.joins at s ∙ rw (r.runs at t, r.runs (at + w) (start_next w at t), part_twice at)
              (sym (ranked_append key late (part l at w) (part l (at + w) w)));
        }

    pub runs_end : (n : ℕ) → n ≤ w → n ≡ length l → a ≡ ranked key late l
    unfolding part
    runs_end n h e =
        let k = r.long in
        let p = r.runs 0 (start_none w) in
        sym (take_all w a (omega arith)) ∙ p ∙ ap (ranked key late) (take_all w l (omega arith))

  -- a pass, and the pass back
  module _ (w : ℕ) (l a b : List ℕ) (r : RunsRanked key late w l a) (j : RunsJoin key late w a b) where
    pub runs_climb_twice : RunsClimb key late (2 * w) b
    runs_climb_twice = runs_climb (2 * w) l b (runs_joined w l a r b j)

    pub runs_again : (d : List ℕ) → RunsJoin key late (2 * w) b d → RunsRanked key late (2 * (2 * w)) l d
    runs_again d k = runs_joined (2 * w) l b (runs_joined w l a r b j) d k

pub ruleset Runs-loop = (runs_none, runs_climb, runs_climb_twice, runs_again, runs_end)
