-- What an evaluation looks at: lent tables that were checked, an index of the links, and the rule whose body is evaluated.
use Rattle.std.specs.Prelude.{ℕ, ◌-◌, List, map, take}
use Rattle.meaning.specs.Schema.{ObjectType}
use Rattle.meaning.specs.Register.{Register}
use Rattle.tables.specs.Bodies.{BodyRow, Part, ending}
use Rattle.tables.specs.Columns.{object_row, types_of, register_of}
use Rattle.tables.specs.declared.Counts.{Counts}
use Rattle.tables.specs.declared.Sheet as Code
use Rattle.body_rows.specs.Marks.{body_of}

pub record Site : Type 0 where
  pub counts : Counts
  pub types : List ℕ
  pub objects : List ℕ
  pub links : List ℕ
  pub index : List ℕ
  pub bodies : List ℕ
  pub rule : ℕ

abbrev pub site_of : Counts → List ℕ → List ℕ → List ℕ → List ℕ → List ℕ → ℕ → Site
site_of n types objects links index bodies rule =
    record { counts = n; types = types; objects = objects; links = links; index = index; bodies = bodies; rule = rule }

-- that of lent tables
abbrev pub site_in : Counts → Code.Sheet → List ℕ → ℕ → Site
site_in n s index rule = site_of n s.types.now s.objects.now s.links.now index s.bodies.now rule

abbrev pub types_at : Site → List ObjectType
types_at w = types_of w.counts.types w.types

abbrev pub register_at : Site → Register
register_at w = register_of w.counts.objects w.objects w.counts.links w.links

-- the rows of the rule's body
abbrev pub rows_at : Site → ℕ → BodyRow
rows_at w = body_of w.bodies w.rule

-- the form that ends before row e, and the code of its row
abbrev pub form_at : Site → ℕ → Part
form_at w e = (ending (rows_at w) e).form

abbrev pub code_at : Site → ℕ → ℕ
code_at w e = (rows_at w (e - 1)).code

-- the id of the object in a row
abbrev pub id_in : List ℕ → ℕ → ℕ
id_in objects row = (object_row objects row).id

-- Variables hold rows of objects; the first `depth` of them are bound. These are the ids that they stand for.
abbrev pub ids_of : Site → ℕ → List ℕ → List ℕ
ids_of w depth vars = map (id_in w.objects) (take depth vars)
