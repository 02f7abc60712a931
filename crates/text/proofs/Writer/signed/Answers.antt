use Rattle.std.proofs.Common.{rules}
use Rattle.text.proofs.Laws.{signed_ways}
use Rattle.text.proofs.Writer.signed.Goals as goal

pub returns-then-v-lt9223372036854775808 : goal.returns-then-v-lt9223372036854775808
returns-then-v-lt9223372036854775808 c = search (rules, signed_ways)

pub returns-else-v-lt9223372036854775808 : goal.returns-else-v-lt9223372036854775808
returns-else-v-lt9223372036854775808 c = search (rules, signed_ways)
