-- `body_rows::body::stored` meets its contract: antt computes that the table is that of the operators' shapes.
use Rattle.tables.specs.Codes.{operators, shape_of}
use Rattle.body_rows.proofs.Shapes.{shape_rows, shape_at}
use Rattle.body_rows.proofs.body.stored.Goals as goal

pub returns : goal.returns
unfolding shape_rows operators shape_of
returns c = λ o e. shape_at c.args.code o e c.args.column
