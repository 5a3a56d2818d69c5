-- What a read answers, by what was seen of the text and of the tables.
use Prim.Native.Nat.{ℕ, ◌-◌, ◌/◌, min, ◌≤◌, ◌<◌}
use mathlib.Core.Path.{◌≡◌, refl, sym, ap, ap₂, ◌∙◌}
use mathlib.Core.Bool.{Bool, true, false, cond}
use mathlib.Core.List.{List, [], ◌∷◌}
use native.Mathlib.Omega.{arith}
use lib.Dec.{ltb}
use lib.ListN.{length, get_or, length-replicate}
use borrow.Author.Tests.{ltb-false, lt-ltb}
use Rattle.tables.specs.Layouts.{Sheet, sheet_of, layouts, lines_lent}
use Rattle.tables.specs.Refusals.{not_whole}
use Rattle.std.specs.Prelude.{Ok, Err}
use Rattle.tables.specs.declared.Counts.{Counts}
use Rattle.tables.specs.declared.Refusal.{Refusal}
use Rattle.text.specs.Names.{type_name, floor_name, relationship_name, rule_name, object_name, link_name}
use Rattle.text.specs.Entries.{Entry, event_section, table_of, bodies_of}
use Rattle.text.specs.Texts.{max_text, Reading, taken, refused, read_from, reading, filled}
use Rattle.reading.specs.declared.look.Seen.{Seen}
use Rattle.reading.specs.Looks.{Counted, Shown}
use Rattle.reader.specs.Reads.{unless_broken, lent_reading, read_answer, sheet_after}
use Rattle.filling.specs.Fills.{sheet_with}

-- ---- refusals

pub too_long_lem : (lent text : List ℕ) (broken : Bool) → max_text < length text → unless_broken (reading lent text) broken ≡ refused 2 0
unfolding reading unless_broken
too_long_lem lent text broken h =
    ap (λ b. unless_broken (cond b (refused 2 0) (read_from (length text) lent 1 [] text)) broken) (lt-ltb max_text (length text) h)

pub refusal : (r : Reading) (broken : Bool) (e : Refusal) → Shown r (Err e) → unless_broken r broken ≡ refused e.number e.place
unfolding unless_broken
refusal (taken es) broken e k = absurd k
refusal (refused number line) broken e k = sym (ap (λ (e : Refusal). refused e.number e.place) k)

-- where no refusal was seen, the text is taken
pub is_taken_lem : (r : Reading) (seen : Seen) → Shown r (Ok seen) → (es : List Entry) × (r ≡ taken es) × Counted es seen.counts seen.cells
is_taken_lem (taken es) seen k = (es, refl, k)
is_taken_lem (refused number line) seen k = absurd k

pub unless_broken_lem : {r : Reading} {es : List Entry} → r ≡ taken es → {broken b : Bool} → broken ≡ b → unless_broken r broken ≡ cond b (refused 6 0) (taken es)
unfolding unless_broken
unless_broken_lem q s = ap₂ unless_broken q s

-- ---- the answer

pub refused_so : {r : Reading} {number line : ℕ} → r ≡ refused number line → Err (record { number = number; place = line }) ≡ read_answer r
refused_so q = sym (ap read_answer q)

pub done_so : {r : Reading} {es : List Entry} → r ≡ taken es → (counts cells : List ℕ) → Counted es counts cells
    → Ok (record { types = get_or counts type_name 0; floors = get_or counts floor_name 0; relationships = get_or counts relationship_name 0; rules = get_or counts rule_name 0; objects = get_or counts object_name 0; links = get_or counts link_name 0; events = get_or counts event_section 0 })
    ≡ read_answer r
done_so q counts cells k =
    (λ i. Ok (record {
      types = k.rows type_name (omega arith) i;
      floors = k.rows floor_name (omega arith) i;
      relationships = k.rows relationship_name (omega arith) i;
      rules = k.rows rule_name (omega arith) i;
      objects = k.rows object_name (omega arith) i;
      links = k.rows link_name (omega arith) i;
      events = k.rows event_section (omega arith) i;
    }))
    ∙ sym (ap read_answer q)

-- ---- the tables

pub kept_so : (r : Reading) {e : Refusal} → Err e ≡ read_answer r → (s : Sheet) → s ≡ sheet_after r s
unfolding sheet_after
kept_so (taken es) q s = absurd (grind arith)
kept_so (refused number line) q s = refl

pub taken_so : (r : Reading) {n : Counts} → Ok n ≡ read_answer r → (es : List Entry) × (r ≡ taken es)
taken_so (taken es) q = (es, refl)
taken_so (refused number line) q = absurd (grind arith)

-- a text that is taken into the tables is no longer than it may be, and is taken by itself
pub taken_text : (text : List ℕ) (s : Sheet) {es : List Entry} → lent_reading text s ≡ taken es → (length text ≤ max_text) × (reading (lines_lent s) text ≡ taken es)
unfolding lent_reading unless_broken reading
taken_text text s {es} q = (short (ltb max_text (length text)) refl, inner)
  where
    step : (r : Reading) (b : Bool) → unless_broken r b ≡ taken es → r ≡ taken es
    step (taken fs) false q = q
    step (taken fs) true q = let z : ◌≡◌ {A = ℕ} 0 1 = cc in absurd (omega arith)
    step (refused number line) b q = let z : ◌≡◌ {A = ℕ} 0 1 = cc in absurd (omega arith)

    inner : reading (lines_lent s) text ≡ taken es
    inner = step (reading (lines_lent s) text) (not_whole layouts s) q

    short : (b : Bool) → ltb max_text (length text) ≡ b → length text ≤ max_text
    short false e = ltb-false max_text (length text) e
    short true e =
        let long : refused 2 0 ≡ taken es = sym (ap (λ b. cond b (refused 2 0) (read_from (length text) (lines_lent s) 1 [] text)) e) ∙ inner in
        let z : ◌≡◌ {A = ℕ} 0 1 = cc in
        absurd (omega arith)

-- ---- cleared tables

cleared_length : (old : List ℕ) → length (filled (length old) []) ≡ length old
cleared_length old = let all : length old - 0 ≡ length old = omega arith in length-replicate (length old - 0) 0 ∙ all

abbrev cleared : Sheet → Sheet
cleared s = sheet_with [] s

-- filled, they are as the lent ones filled
pub cleared_filled : (s : Sheet) (es : List Entry) → sheet_with es (cleared s) ≡ sheet_with es s
unfolding table_of bodies_of
cleared_filled s es =
    λ j. sheet_of
    (filled (cleared_length s.types j) (table_of type_name es))
    (filled (cleared_length s.floors j) (table_of floor_name es))
    (filled (cleared_length s.relationships j) (table_of relationship_name es))
    (filled (cleared_length s.rules j) (table_of rule_name es))
    (filled (cleared_length s.bodies j) (bodies_of es))
    (filled (cleared_length s.objects j) (table_of object_name es))
    (filled (cleared_length s.links j) (table_of link_name es))
    (filled (cleared_length s.events j) (table_of event_section es))

-- they are clear, and as many lines have their rows lent
pub cleared_clear : (s : Sheet) → cleared s ≡ sheet_with [] (cleared s)
unfolding table_of bodies_of
cleared_clear s = sym (cleared_filled s [])

pub cleared_lent : (s : Sheet) → lines_lent (cleared s) ≡ lines_lent s
unfolding lines_lent table_of bodies_of
cleared_lent s =
    ap₂ (λ n l. n / 2 ∷ l) (cleared_length s.types)
    (ap₂ (λ n l. n / 2 ∷ l) (cleared_length s.floors)
    (ap₂ (λ n l. n / 2 ∷ l) (cleared_length s.relationships)
    (ap₂ (λ n l. n ∷ l) (ap₂ (λ n m. min (n / 2) (m / 256)) (cleared_length s.rules) (cleared_length s.bodies))
    (ap₂ (λ n l. n / 10 ∷ l) (cleared_length s.objects)
    (ap₂ (λ n l. n / 3 ∷ l) (cleared_length s.links)
    (ap (λ n. n / 4 ∷ []) (cleared_length s.events)))))))

-- what putting the lines into cleared tables asks, and what it leaves
module _ (text : List ℕ) (lent : Sheet) {es : List Entry} (is : lent_reading text lent ≡ taken es) {s : Sheet} (clear : s ≡ cleared lent) where
  pub cleared_taken : reading (lines_lent s) text ≡ taken es
  cleared_taken = ap (λ l. reading l text) (ap lines_lent clear ∙ cleared_lent lent) ∙ (taken_text text lent is).1

  pub cleared_ready : (length text ≤ max_text) × (s ≡ sheet_with [] s) × ((fs : List Entry) × (reading (lines_lent s) text ≡ taken fs))
  cleared_ready = ((taken_text text lent is).0, clear ∙ cleared_clear lent ∙ sym (ap (sheet_with []) clear), (es, cleared_taken))

  pub filled_so : {after : Sheet} → after ≡ sheet_with es s → after ≡ sheet_after (lent_reading text lent) lent
  unfolding sheet_after
  filled_so q = q ∙ ap (sheet_with es) clear ∙ cleared_filled lent es ∙ sym (ap (λ r. sheet_after r lent) is)
