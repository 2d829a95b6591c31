-- `schema::judge_schema` meets its contract: the leading counts lie in the sheet, and within their limits.
use mathlib.Core.Path.{sym, ◌∙◌}
use borrow.Author.Rules.{rules}
use borrow.Author.Tests.{tests}
use Rattle.schema.specs.Decoded.{counts_of}
use Rattle.schema.proofs.Decoding.{limits}
use Rattle.schema.proofs.judge_schema.Goals as goal

pub decode_body-requires : goal.decode_body-requires
decode_body-requires c = (search (rules, tests), limits (counts_of c.read_counts-c.result) (sym c.in_limits.ensures ∙ c.if-not-in_limits.false))
