-- `type_marks::put_role` meets its contract.
use Prim.Native.Nat.{ℕ, ◌/◌}
use mathlib.Core.Path.{sym, ap, ◌∙◌}
use mathlib.Core.Bool.{Bool, true, ◌||◌, or-false, and-true}
use Rattle.meaning.specs.Schema.{Schema, far_type}
use Rattle.meaning.specs.EventList.{event_type_words, role_lists}
use Rattle.tables.specs.Columns.{relationships_of}
use Rattle.type_marks.proofs.Marks.{words_marked, added_both, added_set}
use Rattle.type_marks.proofs.put_role.Goals as goal

pub returns : goal.returns
unfolding role_lists event_type_words
returns c =
    let lost = c.contains-lost in
    let gained = c.contains-gained in
    let a = c.args in
    let join = words_marked 3 (a.role / 2) 0 in
    let part = words_marked 4 (a.role / 2) 0 in
    let gone : ℕ → ℕ → Bool = λ t. words_marked 1 t 0 in
    let always = sym (and-true lost.result) in
    λ ts fs.
    let S : Schema = record { types = ts; floors = fs; relationships = relationships_of a.relationship_count a.relationships.now } in
    added_set join (λ place. part place || gone c.far_type-far.result place) a.set (role_lists S a.role) c.put.ensures
    (added_both lost.result true true part (gone c.far_type-far.result) c.put-2.ensures c.put-3.ensures always always)
    gained.ensures lost.ensures
    (λ place. sym (or-false (join place)))
    (λ place. ap (λ t. part place || gone t place) c.far_type-far.ensures ∙ ap (λ b. part place || b) (sym (or-false (gone (far_type S.relationships a.role) place))))
