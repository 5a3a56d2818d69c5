-- When a form is quiet, by its row and its parts.
use Prim.Native.Nat.{ℕ, suc, ◌<◌}
use mathlib.Core.Path.{◌≡◌, refl, sym, ap, subst, ◌∙◌}
use mathlib.Core.Bool.{Bool, true, false, not, ◌&&◌, ◌||◌, cond}
use mathlib.Core.List.{List}
use native.Mathlib.Omega.{arith}
use lib.Dec.{T, eqb}
use borrow.Author.Tests.{eq-eqb, ne_eqb}
use Rattle.meaning.specs.Forms.{Sort, le, lt, eq, ne, ge, gt, and, or, xor, implies, forall, exists, add, sub}
use Rattle.meaning.specs.Reach.{role_of_self, quiet_quantifier, quiet_connective, quietly}
use Rattle.tables.specs.Codes.{Operator, comparing, negating, connecting, quantifying, kind_of, literal, cell_of, size_of, sum_of, combining, role_of, all_of, selecting, code_of, shape_of}
use Rattle.tables.specs.Bodies.{BodyRow, Part, as_truth, as_collection, form_of, ending, first_part, second_part}
use Rattle.tables.proofs.Readings.{node, code_of_lem}
use Rattle.body_rows.specs.Marks.{first_sort, second_sort}
use Rattle.typing.proofs.Types.{operator_here, second_here, first_here}
use Rattle.quietness.specs.Quiet.{turn, connects, quantifies, joined, quiet_part, self_part}

-- what the code asks of the parts, by the roles that count
abbrev pub quiet_test : (ℕ → Bool) → ℕ → Part → Part → Bool → Bool
quiet_test counts code a b w =
    cond (eqb code 6) (quiet_part counts b (not w))
    (cond (connects code) (joined (turn (not (eqb code 7)) w) (quiet_part counts a (turn (eqb code 10) w)) (quiet_part counts b w))
    (cond (quantifies code) (turn (eqb code 12) w && self_part counts a) false))

node_quiet : (counts : ℕ → Bool) (o : Operator) (r : BodyRow) (a b : Part) (w : Bool) → quiet_test counts (code_of o) a b w ≡ quiet_part counts (form_of o r a b) w
unfolding code_of form_of as_truth quietly quiet_connective quiet_quantifier
node_quiet counts (comparing le) r a b w = refl
node_quiet counts (comparing lt) r a b w = refl
node_quiet counts (comparing eq) r a b w = refl
node_quiet counts (comparing ne) r a b w = refl
node_quiet counts (comparing ge) r a b w = refl
node_quiet counts (comparing gt) r a b w = refl
node_quiet counts negating r a b w = refl
node_quiet counts (connecting and) r a b true = refl
node_quiet counts (connecting and) r a b false = refl
node_quiet counts (connecting or) r a b true = refl
node_quiet counts (connecting or) r a b false = refl
node_quiet counts (connecting xor) r a b w = refl
node_quiet counts (connecting implies) r a b true = refl
node_quiet counts (connecting implies) r a b false = refl
node_quiet counts (quantifying forall) r a b w = refl
node_quiet counts (quantifying exists) r a b w = refl
node_quiet counts kind_of r a b w = refl
node_quiet counts literal r a b w = refl
node_quiet counts cell_of r a b w = refl
node_quiet counts size_of r a b w = refl
node_quiet counts sum_of r a b w = refl
node_quiet counts (combining add) r a b w = refl
node_quiet counts (combining sub) r a b w = refl
node_quiet counts role_of r a b w = refl
node_quiet counts all_of r a b w = refl
node_quiet counts selecting r a b w = refl

abbrev pub self_test : (ℕ → Bool) → ℕ → BodyRow → Bool
self_test counts code r = (eqb code 20 && eqb r.x 0) && counts r.y

node_self : (counts : ℕ → Bool) (o : Operator) (r : BodyRow) (a b : Part) → self_test counts (code_of o) r ≡ self_part counts (form_of o r a b)
unfolding code_of form_of as_collection role_of_self
node_self counts (comparing le) r a b = refl
node_self counts (comparing lt) r a b = refl
node_self counts (comparing eq) r a b = refl
node_self counts (comparing ne) r a b = refl
node_self counts (comparing ge) r a b = refl
node_self counts (comparing gt) r a b = refl
node_self counts negating r a b = refl
node_self counts (connecting and) r a b = refl
node_self counts (connecting or) r a b = refl
node_self counts (connecting xor) r a b = refl
node_self counts (connecting implies) r a b = refl
node_self counts (quantifying forall) r a b = refl
node_self counts (quantifying exists) r a b = refl
node_self counts kind_of r a b = refl
node_self counts literal r a b = refl
node_self counts cell_of r a b = refl
node_self counts size_of r a b = refl
node_self counts sum_of r a b = refl
node_self counts (combining add) r a b = refl
node_self counts (combining sub) r a b = refl
node_self counts role_of r a b = refl
node_self counts all_of r a b = refl
node_self counts selecting r a b = refl

-- an operator that asks something of a part has it
abbrev Asks : (ℕ → Bool) → (List Sort → ℕ) → Operator → Type 0
Asks asks sort o = T (asks (code_of o)) → sort (shape_of o).parts < 3

asks_first : (o : Operator) → Asks (λ code. connects code || quantifies code) first_sort o
unfolding code_of shape_of
asks_first (comparing le) = λ t. absurd t
asks_first (comparing lt) = λ t. absurd t
asks_first (comparing eq) = λ t. absurd t
asks_first (comparing ne) = λ t. absurd t
asks_first (comparing ge) = λ t. absurd t
asks_first (comparing gt) = λ t. absurd t
asks_first negating = λ t. absurd t
asks_first (connecting o) = λ t. omega arith
asks_first (quantifying q) = λ t. omega arith
asks_first kind_of = λ t. absurd t
asks_first literal = λ t. absurd t
asks_first cell_of = λ t. absurd t
asks_first size_of = λ t. absurd t
asks_first sum_of = λ t. absurd t
asks_first (combining o) = λ t. omega arith
asks_first role_of = λ t. absurd t
asks_first all_of = λ t. absurd t
asks_first selecting = λ t. absurd t

asks_second : (o : Operator) → Asks (λ code. eqb code 6 || connects code) second_sort o
unfolding code_of shape_of
asks_second (comparing o) = λ t. omega arith
asks_second negating = λ t. omega arith
asks_second (connecting o) = λ t. omega arith
asks_second (quantifying q) = λ t. omega arith
asks_second kind_of = λ t. absurd t
asks_second literal = λ t. absurd t
asks_second cell_of = λ t. absurd t
asks_second size_of = λ t. omega arith
asks_second sum_of = λ t. omega arith
asks_second (combining o) = λ t. omega arith
asks_second role_of = λ t. absurd t
asks_second all_of = λ t. absurd t
asks_second selecting = λ t. omega arith

-- ---- the form that ends with a row

module _ (rows : ℕ → BodyRow) (i : ℕ) (sound : T (ending rows (suc i)).sound) where
  abbrev code : ℕ
  code = (rows i).code

  abbrev a : Part
  a = (first_part rows i).form

  abbrev b : Part
  b = (second_part rows i).form

  coded : code_of (operator_here rows i sound) ≡ code
  coded = let d = node rows i sound in code_of_lem code d.operator d.coded

  pub first_sound : T (connects code || quantifies code) → T (first_part rows i).sound
  first_sound t =
      let h = asks_first (operator_here rows i sound) (subst (λ k. T (connects k || quantifies k)) (sym coded) t) in
      first_here rows i sound (λ e. absurd (omega arith))

  pub second_sound : T (eqb code 6 || connects code) → T (second_part rows i).sound
  second_sound t =
      let h = asks_second (operator_here rows i sound) (subst (λ k. T (eqb k 6 || connects k)) (sym coded) t) in
      second_here rows i sound (λ e. absurd (omega arith))

  -- ---- by the roles that count

  module _ (counts : ℕ → Bool) where
    quiet_here : (w : Bool) → quiet_test counts code a b w ≡ quiet_part counts (ending rows (suc i)).form w
    quiet_here w =
        let d = node rows i sound in
        ap (λ k. quiet_test counts k a b w) (sym coded) ∙ node_quiet counts d.operator (rows i) a b w ∙ ap (λ p. quiet_part counts p w) (sym d.form)

    pub self_here : self_test counts code (rows i) ≡ self_part counts (ending rows (suc i)).form
    self_here =
        let d = node rows i sound in
        ap (λ k. self_test counts k (rows i)) (sym coded) ∙ node_self counts d.operator (rows i) a b ∙ ap (self_part counts) (sym d.form)

    -- ---- the same, test by test

    module _ (w : Bool) where
      abbrev connected : Bool
      connected = joined (turn (not (eqb code 7)) w) (quiet_part counts a (turn (eqb code 10) w)) (quiet_part counts b w)

      abbrev quantified : Bool
      quantified = turn (eqb code 12) w && self_part counts a

      by_tests : (x y z : Bool) → eqb code 6 ≡ x → connects code ≡ y → quantifies code ≡ z → cond x (quiet_part counts b (not w)) (cond y connected (cond z quantified false)) ≡ quiet_part counts (ending rows (suc i)).form w
      by_tests x y z p q r = (λ j. cond (sym p j) (quiet_part counts b (not w)) (cond (sym q j) connected (cond (sym r j) quantified false))) ∙ quiet_here w

      pub not_here : code ≡ 6 → quiet_part counts b (not w) ≡ quiet_part counts (ending rows (suc i)).form w
      not_here e = by_tests true (connects code) (quantifies code) (eq-eqb code 6 e) refl refl

      module _ (n : code ≡ 6 → ⊥) where
        pub connected_here : connects code ≡ true → connected ≡ quiet_part counts (ending rows (suc i)).form w
        connected_here q = by_tests false true (quantifies code) (ne_eqb code 6 n) q refl

        pub quantified_here : connects code ≡ false → quantifies code ≡ true → quantified ≡ quiet_part counts (ending rows (suc i)).form w
        quantified_here q r = by_tests false false true (ne_eqb code 6 n) q r

        pub other_here : connects code ≡ false → quantifies code ≡ false → false ≡ quiet_part counts (ending rows (suc i)).form w
        other_here q r = by_tests false false false (ne_eqb code 6 n) q r
