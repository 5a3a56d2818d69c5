-- The events of a batch one after the other: what is left of the batch before each event, and the copy that they work on.
use Prim.Native.Nat.{ℕ, suc, ◌+◌, ◌*◌, ◌-◌, ◌≤◌, ◌<◌, min, zero-le}
use mathlib.Core.Path.{◌≡◌, refl, sym, ap, ap₂, subst, ◌∙◌}
use mathlib.Core.List.{List, [], ◌∷◌, ◌++◌, map, append_assoc, append-nil}
use mathlib.Core.Option
use mathlib.Core.Option.{Option, none, some}
use native.Mathlib.Nat.{sub-zero}
use native.Mathlib.Numerals.{add-one}
use native.Mathlib.Omega.{arith}
use lib.ListN.{length, get_or, take, drop, set as replace_at, replicate, length-set, length-replicate, take-append-drop, get_or-append}
use lib.Seq.{length-take-le, take-suc-set, drop-set-lt, drop-drop, get_or-take}
use borrow.Author.Tests.{le-leb}
use Rattle.meaning.specs.Limits.{max_objects, max_links, max_events}
use Rattle.meaning.specs.Lists.{first_of}
use Rattle.meaning.specs.Schema.{Schema}
use Rattle.meaning.specs.Register.{Register}
use Rattle.meaning.specs.Events.{Event, insert, delete, set, join, part, special, general, Lent, apply, after, checks, event_refusal, refusal_from, batch_refusal}
use Rattle.meaning.specs.Reach.{Step, steps_of}
use Rattle.meaning.proofs.Registers.{RegisterFits}
use Rattle.rows.specs.Rows.{rows_from, read_rows, rows_lent, copied}
use Rattle.rows.proofs.Offsets.{row_before}
use Rattle.rows.proofs.Listed.{rows_same}
use Rattle.tables.specs.Columns.{object_row, link_row, register_of}
use Rattle.schema.proofs.Rows.{length_rows}
use Rattle.register.proofs.Changes.{ByWords}
use Rattle.event_effects.specs.Effects.{Applied}
use Rattle.events.specs.Steps.{Ready}
use Rattle.events.specs.declared.Ran.{Ran}
use Rattle.tables.specs.Met.{no_type, met_type, met_by}
use Rattle.std.specs.Prelude.{Ok, Err}
use Rattle.events.specs.Runs.{lent_by, Fit, CanRun, met_table, ran_over, ran_by, RunLeft, RunDone}
use Rattle.event_effects.proofs.Applied.{object_by_words, link_by_words}
use Rattle.events.proofs.Allowed.{ready_after}
use Rattle.events.proofs.MetTypes.{length_steps}
use Rattle.events.proofs.Lost.{Lost, lost_count, lost_few, lost_table}

-- ---- copied rows

module _ {A : Type 0} (width : ℕ) (read : List ℕ → ℕ → A) (by_words : ByWords width read) (dst src : List ℕ) (n : ℕ) (there : n * width ≤ length src) (room : n * width ≤ length dst) where
  abbrev copy : List ℕ
  copy = copied dst src (n * width)

  copied_word : (k : ℕ) → k < n * width → get_or copy k 0 ≡ get_or src k 0
  unfolding copied
  copied_word k h =
      let front = take (n * width) src in
      let long : k < length front = omega (arith, length-take-le (n * width) src there) in
      rw (le-leb (n * width) (length dst) room, le-leb (n * width) (length src) there)
      (get_or-append front (drop (n * width) dst) 0 k long ∙ get_or-take (n * width) src k 0 h)

  pub copied_rows : read_rows (read copy) n ≡ read_rows (read src) n
  copied_rows =
      rows_same (read src) (read copy) 0 n
      (λ i l h. by_words copy src i i (λ c k. copied_word (i * width + c) (omega (arith, row_before i n width (omega arith)))))

-- ---- the limits are kept

-- the words lent for a list concern no event
pub fit_words : {S : Schema} {lent : Lent} {n : ℕ} {objects : List ℕ} {m : ℕ} {links : List ℕ} → Fit S lent n objects m links → (w : ℕ)
    → Fit S (record { objects = lent.objects; links = lent.links; words = w }) n objects m links
fit_words f w =
    let r = f.ready in
    record {
      ready =
          record {
            types_fit = r.types_fit;
            relationships_few = r.relationships_few;
            fits = r.fits;
            objects_lent_lem = r.objects_lent_lem;
            links_lent_lem = r.links_lent_lem;
            objects_used = r.objects_used;
            links_used = r.links_used;
          };
      objects_few = f.objects_few;
      links_few = f.links_few;
    }

-- rows lent beyond the limits concern none either
abbrev narrowed : Lent → Lent
narrowed lent = record { objects = min max_objects lent.objects; links = min max_links lent.links; words = lent.words }

least : (a b : ℕ) → min a (min a b) ≡ min a b
least a b = omega arith

narrowed_refusal : (S : Schema) (lent : Lent) (g : Register) (e : Event) → event_refusal S (narrowed lent) g e ≡ event_refusal S lent g e
unfolding event_refusal checks
narrowed_refusal S lent g (insert id t) = rw (least max_objects lent.objects)
narrowed_refusal S lent g (delete id) = refl
narrowed_refusal S lent g (set id k v) = refl
narrowed_refusal S lent g (join r a b) = rw (least max_links lent.links)
narrowed_refusal S lent g (part r a b) = refl
narrowed_refusal S lent g (special id t) = refl
narrowed_refusal S lent g (general id t) = refl

module _ (S : Schema) (lent : Lent) (n : ℕ) (objects : List ℕ) (m : ℕ) (links : List ℕ) (f : Fit S lent n objects m links) where
  narrow : Ready S (narrowed lent) n objects m links
  narrow =
      let r = f.ready in
      record {
        types_fit = r.types_fit;
        relationships_few = r.relationships_few;
        fits = r.fits;
        objects_lent_lem = omega (arith, r.objects_lent_lem);
        links_lent_lem = omega (arith, r.links_lent_lem);
        objects_used = omega (arith, r.objects_used, f.objects_few);
        links_used = omega (arith, r.links_used, f.links_few);
      }

  pub fit_after : (e : Event) → event_refusal S lent (register_of n objects m links) e ≡ none → {n' : ℕ} {objects' : List ℕ} {m' : ℕ} {links' : List ℕ} → Applied S e n objects m links n' objects' m' links' → Fit S lent n' objects' m' links'
  fit_after e ok a =
      let narrow_after = ready_after S (narrowed lent) n objects m links narrow e (narrowed_refusal S lent _ e ∙ ok) a in
      record {
        ready = ready_after S lent n objects m links f.ready e ok a;
        objects_few = omega (arith, narrow_after.objects_used);
        links_few = omega (arith, narrow_after.links_used);
      }

-- ---- what is left of a batch before event `row`

module _ (S : Schema) (lent : Lent) (start : Register) (read : ℕ → Event) (count : ℕ) where
  -- the events from one on
  abbrev events_from : ℕ → List Event
  events_from row = rows_from read row (count - row)

  -- The events before it are not refused, the tables are what they left, and their met types stand in front.
  pub record Reached (row n : ℕ) (objects : List ℕ) (m : ℕ) (links met : List ℕ) : Type 0 where
    pub few : count ≤ max_events
    pub within : row ≤ count
    pub fit : Fit S lent n objects m links
    pub met_length : length met ≡ max_events
    pub met_past : drop row met ≡ replicate (max_events - row) no_type
    pub refusal_left : batch_refusal S lent start (read_rows read count) ≡ refusal_from S lent row (register_of n objects m links) (events_from row)
    pub end_left : after S start (read_rows read count) ≡ after S (register_of n objects m links) (events_from row)
    pub met_left : map met_by (steps_of S start (read_rows read count)) ≡ take row met ++ map met_by (steps_of S (register_of n objects m links) (events_from row))

  module _ {row n : ℕ} {objects : List ℕ} {m : ℕ} {links met : List ℕ} (r : Reached row n objects m links met) where
    abbrev here : Register
    here = register_of n objects m links

    -- this event and those after it
    next : row < count → events_from row ≡ read row ∷ events_from (suc row)
    next h = let e : count - row ≡ suc (count - suc row) = omega arith in ap (rows_from read row) e

    -- so the batch's refusal is this event's, if it meets one
    by_this : row < count → {o : Option ℕ} → event_refusal S lent here (read row) ≡ o → batch_refusal S lent start (read_rows read count)
        ≡ first_of (Option.map (λ k. record { number = k; place = row }) o) (refusal_from S lent (suc row) (apply S (read row) here) (events_from (suc row)))
    unfolding refusal_from
    by_this h e =
        r.refusal_left ∙ ap (refusal_from S lent row here) (next h)
        ∙ ap (λ o. first_of (Option.map (λ k. record { number = k; place = row }) o) (refusal_from S lent (suc row) (apply S (read row) here) (events_from (suc row)))) e

    pub reached_refused : row < count → {number : ℕ} → event_refusal S lent here (read row) ≡ some number
        → batch_refusal S lent start (read_rows read count) ≡ some (record { number = number; place = row })
    reached_refused h e = by_this h e

    -- past an event that has its effect
    pub reached_more : row < count → event_refusal S lent here (read row) ≡ none → {n' : ℕ} {objects' : List ℕ} {m' : ℕ} {links' : List ℕ} → Applied S (read row) n objects m links n' objects' m' links'
        → {seen : ℕ} → seen ≡ met_type here (read row) → Reached (row + 1) n' objects' m' links' (replace_at met row seen)
    unfolding after steps_of
    reached_more h ok {n'} {objects'} {m'} {links'} a {seen} q =
        rw (add-one row)
        (record {
          few = r.few;
          within = h;
          fit = fit_after S lent n objects m links r.fit (read row) ok a;
          met_length = length-set met row seen ∙ r.met_length;
          met_past =
              drop-set-lt (suc row) met row seen (omega arith) ∙ ap (λ k. drop k met) (sym (add-one row)) ∙ sym (drop-drop 1 row met) ∙ ap (drop 1) r.met_past
              ∙ ap (λ k. drop 1 (replicate k no_type)) (let e : max_events - row ≡ suc (max_events - suc row) = omega (arith, r.few) in e);
          refusal_left = by_this h ok ∙ ap (λ g. refusal_from S lent (suc row) g (events_from (suc row))) (sym a.effect);
          end_left =
              r.end_left ∙ ap (after S here) (next h) ∙ ap (λ g. after S g (events_from (suc row))) (sym a.effect);
          met_left =
              r.met_left ∙ ap (λ es. take row met ++ map met_by (steps_of S here es)) (next h)
              ∙ ap (λ g. take row met ++ (met_type here (read row) ∷ map met_by (steps_of S g (events_from (suc row))))) (sym a.effect)
              ∙ ap (λ t. take row met ++ (t ∷ rest)) (sym q)
              ∙ sym (append_assoc (take row met) (seen ∷ []) rest)
              ∙ ap (λ front. front ++ rest) (sym (take-suc-set met row seen (omega (arith, r.few, r.met_length))));
        })
      where
        rest : List ℕ
        rest = map met_by (steps_of S (register_of n' objects' m' links') (events_from (suc row)))

    -- past the last event
    module _ (h : count ≤ row) where
      abbrev steps : List Step
      steps = steps_of S start (read_rows read count)

      none_left : events_from row ≡ []
      none_left = let e : count - row ≡ 0 = omega arith in ap (rows_from read row) e

      pub reached_clear : batch_refusal S lent start (read_rows read count) ≡ none
      unfolding refusal_from
      reached_clear = r.refusal_left ∙ ap (refusal_from S lent row here) none_left

      pub reached_after : here ≡ after S start (read_rows read count)
      unfolding after
      reached_after = sym (r.end_left ∙ ap (after S here) none_left)

      pub reached_few : row ≤ max_events
      reached_few = omega (arith, r.within, r.few)

      pub reached_met : met ≡ met_table steps
      unfolding steps_of
      reached_met =
          sym (take-append-drop row met) ∙ ap₂ ◌++◌ front (r.met_past ∙ ap (λ k. replicate (max_events - k) no_type) (sym all))
        where
          front : take row met ≡ map met_by steps
          front = sym (r.met_left ∙ ap (λ es. take row met ++ map met_by (steps_of S here es)) none_left ∙ append-nil (take row met))

          all : length steps ≡ row
          all = omega (arith, length_steps S start (read_rows read count), length_rows read count, r.within)

      -- so the run answers that, and leaves the register after the batch
      pub reached_left : {k : ℕ} {losses : List ℕ} → Lost S start read count row n objects m links k losses → RunLeft S lent start (read_rows read count) n objects m links
      reached_left l = record { end = reached_after; fit = r.fit; losses_few = lost_few S start read count l h reached_few }

      pub reached_ran : {k : ℕ} {losses : List ℕ} → Lost S start read count row n objects m links k losses
          → ◌≡◌ {A = Ran} (record { verdict = Ok tt; held = record { objects = n; links = m; losses = k }; met = met; losses = losses }) (ran_by (batch_refusal S lent start (read_rows read count)) S start (read_rows read count))
      unfolding ran_by ran_over
      reached_ran l =
          (λ i.
          record {
            verdict = Ok tt;
            held = record { objects = objects_now i; links = links_now i; losses = lost_count S start read count l h i };
            met = reached_met i;
            losses = lost_table S start read count l h reached_few i;
          })
          ∙ ap (λ o. ran_by o S start (read_rows read count)) (sym reached_clear)
        where
          objects_now : n ≡ length (after S start (read_rows read count)).objects
          objects_now = sym (length_rows (object_row objects) n) ∙ ap (λ (g : Register). length g.objects) reached_after

          links_now : m ≡ length (after S start (read_rows read count)).links
          links_now = sym (length_rows (link_row links) m) ∙ ap (λ (g : Register). length g.links) reached_after

-- no event has met a type
abbrev pub none_met : List ℕ
none_met = replicate max_events no_type

-- before the first event
pub reached_none : (S : Schema) (lent : Lent) (read : ℕ → Event) (count : ℕ) → count ≤ max_events → {n : ℕ} {objects : List ℕ} {m : ℕ} {links : List ℕ}
    → Fit S lent n objects m links → Reached S lent (register_of n objects m links) read count 0 n objects m links none_met
unfolding batch_refusal
reached_none S lent read count few {n} {objects} {m} {links} f =
    let here = register_of n objects m links in
    let all = sym (sub-zero count) in
    record {
      few = few;
      within = zero-le;
      fit = f;
      met_length = length-replicate {A = ℕ} max_events no_type;
      met_past = refl;
      refusal_left = ap (λ k. refusal_from S lent 0 here (rows_from read 0 k)) all;
      end_left = ap (λ k. after S here (rows_from read 0 k)) all;
      met_left = ap (λ k. map met_by (steps_of S here (rows_from read 0 k))) all;
    }

-- ---- the copy

-- The scratch after the used rows are copied to it, and the rows lent.
pub record Copies (n : ℕ) (objects : List ℕ) (m : ℕ) (links scratch_objects scratch_links : List ℕ) (objects_lent links_lent : ℕ) (objects' links' : List ℕ) : Type 0 where
  pub objects_are : objects' ≡ copied scratch_objects objects (n * 10)
  pub links_are : links' ≡ copied scratch_links links (m * 3)
  pub objects_length : length objects' ≡ length scratch_objects
  pub links_length : length links' ≡ length scratch_links
  pub objects_lent_lem : objects_lent ≡ rows_lent objects 10
  pub links_lent_lem : links_lent ≡ rows_lent links 3

module _
    (S : Schema)
    (n : ℕ)
    (objects : List ℕ)
    (m : ℕ)
    (links scratch_objects scratch_links : List ℕ)
    (count : ℕ)
    (can : CanRun S n objects m links scratch_objects scratch_links count)
    {objects_lent links_lent : ℕ}
    {objects' links' : List ℕ}
    (copies : Copies n objects m links scratch_objects scratch_links objects_lent links_lent objects' links')
  where
    objects_there : n * 10 ≤ length objects
    objects_there = omega (arith, can.fit.ready.objects_lent_lem, can.fit.ready.objects_used)

    links_there : m * 3 ≤ length links
    links_there = omega (arith, can.fit.ready.links_lent_lem, can.fit.ready.links_used)

    same_register : register_of n objects' m links' ≡ register_of n objects m links
    same_register = λ i. record { objects = same_objects i; links = same_links i }
      where
        same_objects : read_rows (object_row objects') n ≡ read_rows (object_row objects) n
        same_objects =
            ap (λ t. read_rows (object_row t) n) copies.objects_are
            ∙ copied_rows 10 object_row object_by_words scratch_objects objects n objects_there (omega (arith, objects_there, can.objects_scratch))

        same_links : read_rows (link_row links') m ≡ read_rows (link_row links) m
        same_links =
            ap (λ t. read_rows (link_row t) m) copies.links_are
            ∙ copied_rows 3 link_row link_by_words scratch_links links m links_there (omega (arith, links_there, can.links_scratch))

    -- so the events can go on it
    pub copy_fits : Fit S (record { objects = objects_lent; links = links_lent; words = 0 }) n objects' m links'
    copy_fits =
        let r = can.fit.ready in
        record {
          ready =
              record {
                types_fit = r.types_fit;
                relationships_few = r.relationships_few;
                fits = subst (RegisterFits S) (sym same_register) r.fits;
                objects_lent_lem = omega (arith, r.objects_lent_lem, can.objects_scratch, copies.objects_length, copies.objects_lent_lem);
                links_lent_lem = omega (arith, r.links_lent_lem, can.links_scratch, copies.links_length, copies.links_lent_lem);
                objects_used = omega (arith, r.objects_used, copies.objects_lent_lem);
                links_used = omega (arith, r.links_used, copies.links_lent_lem);
              };
          objects_few = can.fit.objects_few;
          links_few = can.fit.links_few;
        }

    -- and what they do there is what they do to the register that was lent
    pub copy_done : {w : ℕ} {es : List Event} {ran : Ran} {o l : List ℕ} → RunDone S (record { objects = objects_lent; links = links_lent; words = w }) (register_of n objects' m links') es ran o l
        → RunDone S (lent_by objects links w) (register_of n objects m links) es ran o l
    copy_done {w} {es} {ran} {o} {l} done =
        subst (λ k. RunDone S (record { objects = rows_lent objects 10; links = k; words = w }) (register_of n objects m links) es ran o l) copies.links_lent_lem
        (subst (λ k. RunDone S (record { objects = k; links = links_lent; words = w }) (register_of n objects m links) es ran o l) copies.objects_lent_lem
        (subst (λ g. RunDone S (record { objects = objects_lent; links = links_lent; words = w }) g es ran o l) same_register done))
