use Rattle.std.proofs.Common.{rules}
use Rattle.std.proofs.lemmas.List.Sorted.{IsPartitionPoint-from_clause}
use Rattle.names.specs.Name.{section_text, span_text}
use Rattle.ranks.specs.Search.{lower_than, ranks_low}
use Rattle.codes.proofs.Laws.{parted, point_halved}
use Rattle.codes.proofs.first_named.Goals as goal

pub returns : goal.returns
returns c =
    point_halved (lower_than (section_text c.args.f.now c.args.h) (span_text c.args.f.now c.args.name)) c.args.ranks.now c.partition_point.result c.partition_point.ensures.bound
    (IsPartitionPoint-from_clause (lower_than (section_text c.args.f.now c.args.h) (span_text c.args.f.now c.args.name)) c.args.ranks.now c.partition_point.result c.partition_point.ensures.partitioned
    (parted (lower_than (section_text c.args.f.now c.args.h) (span_text c.args.f.now c.args.name)) c.args.ranks.now (ranks_low c.args.f.now c.args.h (span_text c.args.f.now c.args.name) c.args.ranks.now c.requires))
    (λ a r q k. search rules))
