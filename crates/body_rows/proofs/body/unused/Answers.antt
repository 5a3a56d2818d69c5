-- `body_rows::body::unused` meets its contract.
use mathlib.Core.Path.{ap}
use native.Mathlib.Omega.{arith}
use lib.Dec.{eqb}
use borrow.Author.Tests.{eq-eqb, ne_eqb, le-leb, lt-leb}
use Rattle.body_rows.specs.Marks.{body_of}
use Rattle.body_rows.proofs.Marks.{fields_test_lem}
use Rattle.body_rows.proofs.body.unused.Goals as goal

pub returns-then-field-ne0 : goal.returns-then-field-ne0
returns-then-field-ne0 c =
    let a = c.args in
    let r = body_of a.bodies.now a.rule a.row in
    rw (← fields_test_lem a.fields r)
    (simp (ne_eqb r.z 0 (omega arith)))

pub returns-then-fields-ge2 : goal.returns-then-fields-ge2
returns-then-fields-ge2 c =
    let a = c.args in
    let r = body_of a.bodies.now a.rule a.row in
    rw (← fields_test_lem a.fields r)
    (simp (eq-eqb r.z 0 (omega arith), le-leb 2 a.fields (omega arith)))

pub returns-then-field-ne0-2 : goal.returns-then-field-ne0-2
returns-then-field-ne0-2 c =
    let a = c.args in
    let r = body_of a.bodies.now a.rule a.row in
    rw (← fields_test_lem a.fields r)
    (simp (eq-eqb r.z 0 (omega arith), lt-leb 2 a.fields (omega arith), ne_eqb r.y 0 (omega arith)))

pub returns-then-fields-ge1 : goal.returns-then-fields-ge1
returns-then-fields-ge1 c =
    let a = c.args in
    let r = body_of a.bodies.now a.rule a.row in
    rw (← fields_test_lem a.fields r)
    (simp (eq-eqb r.z 0 (omega arith), lt-leb 2 a.fields (omega arith), eq-eqb r.y 0 (omega arith), le-leb 1 a.fields (omega arith)))

pub returns : goal.returns
returns c =
    let a = c.args in
    let r = body_of a.bodies.now a.rule a.row in
    rw (← fields_test_lem a.fields r)
    (simp (eq-eqb r.z 0 (omega arith), lt-leb 2 a.fields (omega arith), eq-eqb r.y 0 (omega arith), lt-leb 1 a.fields (omega arith)) (ap (λ x. eqb x 0) c.field-3.ensures))
