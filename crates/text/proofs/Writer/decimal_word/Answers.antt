use Rattle.std.proofs.Common.{rules}
use Rattle.text.specs.TextLaws.{then}
use Rattle.text.proofs.Writer.decimal_word.Goals as goal

pub returns : goal.returns
returns c = search (rules, then)
