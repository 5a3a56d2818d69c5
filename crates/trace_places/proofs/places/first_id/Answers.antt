-- `trace_places::places::first_id` meets its contract.
use native.Mathlib.Omega.{arith}
use Rattle.trace_places.proofs.Naming.{set_names, join_names, part_names, spoiled_names, past_names, deleted_none, deleted_names, typed_names}
use Rattle.trace_places.proofs.places.first_id.Goals as goal

pub returns-then-kind-eq-SET : goal.returns-then-kind-eq-SET
returns-then-kind-eq-SET c = let a = c.args in set_names a.x a.y a.z c.if-kind-eq-SET.true

pub returns-then-kind-eq-JOIN : goal.returns-then-kind-eq-JOIN
returns-then-kind-eq-JOIN c = let a = c.args in join_names a.x a.y a.z c.if-kind-eq-JOIN.true

pub returns-then-kind-eq-PART : goal.returns-then-kind-eq-PART
returns-then-kind-eq-PART c = let a = c.args in part_names a.x a.y a.z c.if-kind-eq-PART.true

pub returns-then-z-ne0 : goal.returns-then-z-ne0
returns-then-z-ne0 c =
    let a = c.args in
    spoiled_names a.x a.y a.z c.if-z-ne0.true a.kind c.if-kind-eq-SET.false c.if-kind-eq-JOIN.false c.if-kind-eq-PART.false

pub returns-then-kind-gt-GENERAL : goal.returns-then-kind-gt-GENERAL
returns-then-kind-gt-GENERAL c =
    let a = c.args in
    past_names a.x a.y a.z a.kind c.if-kind-gt-GENERAL.true

pub returns-then-kind-ne-DELETE : goal.returns-then-kind-ne-DELETE
returns-then-kind-ne-DELETE c =
    let a = c.args in
    typed_names a.x a.y a.z a.kind (omega (arith, c.if-kind-gt-GENERAL.false)) c.if-kind-ne-DELETE.true c.if-kind-eq-SET.false c.if-kind-eq-JOIN.false c.if-kind-eq-PART.false c.if-z-ne0.false

pub returns-then-y-ne0 : goal.returns-then-y-ne0
returns-then-y-ne0 c =
    let a = c.args in
    deleted_none a.x a.y a.z c.if-kind-ne-DELETE.false c.if-y-ne0.true

pub returns : goal.returns
returns c =
    let a = c.args in
    deleted_names a.x a.y a.z c.if-kind-ne-DELETE.false c.if-y-ne0.false c.if-z-ne0.false
