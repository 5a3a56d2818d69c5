-- `full::verdict_for` meets its contract.
use borrow.Author.Tests.{lt-ltb, le-ltb, eq-eqb, ne_eqb}
use Rattle.full.proofs.verdict_for.Goals as goal

pub returns-then-rule-rules : goal.returns-then-rule-rules
returns-then-rule-rules c = rw (lt-ltb c.args.rule c.args.rules c.if-rule-rules.true)
