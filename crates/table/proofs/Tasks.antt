-- The task that is read off a JSON value by the names of its members is the one that the text's tokens come to.
use Rattle.std.proofs.Common.{◌≡◌, ℕ, suc, ◌+◌, false, List, [], ◌∷◌, drop, Some, None, Option, refl, sym, ap, ◌∙◌, arith}
use Rattle.std.proofs.lemmas.Option.{same_Some}
use Rattle.text.specs.Tree.{Json, Members, Entries, scalar, object, array, no_entry, one_entry}
use Rattle.names.specs.Vocabulary.{source_spelled, format_spelled, attribute_spelled}
use Rattle.table.specs.declared.keys.Key.{Key}
use Rattle.table.specs.declared.level.Level.{Level}
use Rattle.table.specs.declared.record.Head.{Head}
use Rattle.table.specs.declared.record.Record.{Record}
use Rattle.table.specs.Levels.{part, known, absent_weight}
use Rattle.table.specs.Words.{word_meaning, value_meaning, verb_spelled, wanted_or}
use Rattle.table.specs.Drafts.{verb_in, source_in, format_in, value_in, attribute_record, value_record, record_at}
use Rattle.table.specs.Form.{Lot, Doing, begun, is_task, default_weight}
use Rattle.table.specs.Members.{first_kind, starts, said}
use Rattle.table.specs.TaskOf.{named, word_at, word_or_none, entries_named, count, objects_named, weight_from, weight_named, default_parts, value_at, attribute_at, format_at, source_at, stream_at, action_at, value_weight, attribute_weight, format_weight, source_weight, stream_weight, action_weight, task_of, weight_of}
use Rattle.table.specs.Views.{values_in, attributes_in, formats_in, sources_in, streams_in, actions_in, depth, Finds}
use Rattle.table.proofs.Values.{fine, members_read, task_read}
use Rattle.table.proofs.Views.{stands, shows_all, finds_values, finds_attributes, finds_formats, finds_sources, finds_streams, finds_actions, none_in, finds_none}
use Rattle.table.proofs.Drafting.{below, array_name, meaning_at, drawn, word_drawn, not_skipped, Drawn}
use Rattle.table.proofs.Listing.{Arrays, Objects, arrays, holds, object_fine}

-- a level by the level of its parts: what its objects weigh, the records that they leave, and what the views make of these
module _ {X Y : Type 0} (t : List ℕ) (l : Level) (m : ℕ) (view : List Record → List X) (lower : List Record → List Y)
    (make : ℕ → ℕ → Members → List Y → X) (heavy : Members → ℕ) (make_part : ℕ → ℕ → Members → Y) (heavy_part : Members → ℕ)
    (written : ℕ → ℕ → Members → Record) where
  pub record IsLevel : Type 0 where
    pub excepts : known l (Some Key.Exception) ≡ Some Key.Exception
    pub vendors : known l (Some Key.Vendor) ≡ Some Key.Vendor
    pub no_task : is_task l ≡ false
    pub finds : Finds (suc m) view
    pub finds_parts : Finds (suc (suc m)) lower
    pub lies : (n i : ℕ) (ms : Members) → depth (written n i ms) ≡ suc m
    pub seen : (n i : ℕ) (ms : Members) (rs : List Record) → view (written n i ms ∷ rs) ≡ make n i ms (lower rs) ∷ view rs
    pub weighs : (ms : Members) → heavy ms ≡ 1 + weight_named t heavy_part (array_name l) ms + default_parts l (objects_named t make_part (array_name l) ms)
    pub writes : (n i : ℕ) (ms : Members) (d : Doing) (r : Record) → members_read t ms (begun l n i) ≡ fine d → Drawn t l n i ms d.draft → d.draft.entries ≡ count (entries_named t (array_name l) ms) → record_at l d.draft ≡ Some r → r ≡ written n i ms

  pub level_objects : IsLevel → (part l (array_name l) ≡ Some (below l) → Arrays t (below l) (suc m) lower make_part heavy_part) → Objects t l m view (λ n i ms. make n i ms (objects_named t make_part (array_name l) ms)) heavy
  level_objects a below_it n i ms d r z e =
      let x = drawn t l n i ms d z a.excepts a.vendors in
      let h = holds t l (suc m) lower make_part heavy_part below_it n i ms d z in
      let w : r ≡ written n i ms = a.writes n i ms d r z x h.counts (ap (λ y. record_at y d.draft) (sym x.level) ∙ e) in
      let k : is_task d.draft.level ≡ false = ap (λ y. is_task y) x.level ∙ a.no_task in
      record {
        no_task = k;
        skips = x.skips;
        weighs = rw (k, x.level, h.weighs, h.shows.empty l) (sym (a.weighs ms));
        shows = rw w (stands (suc m) view lower (make n i ms) (written n i ms) d.parts.records _ a.finds a.finds_parts (a.lies n i ms) (a.seen n i ms) h.shows);
      }

-- the words, by the members that have them
verb_word : (t : List ℕ) (o : Option Json) → verb_in (word_at (meaning_at t Level.Action) o) ≡ word_at (λ v. verb_spelled (said t (starts v))) o
unfolding word_meaning
verb_word t None = refl
verb_word t (Some v) = refl

source_word : (t : List ℕ) (o : Option Json) → source_in (word_at (meaning_at t Level.Source) o) ≡ word_at (λ v. wanted_or (said t (starts v)) (source_spelled (said t (starts v)))) o
unfolding word_meaning
source_word t None = refl
source_word t (Some v) = refl

format_word : (t : List ℕ) (o : Option Json) → format_in (word_at (meaning_at t Level.PixelFormat) o) ≡ word_at (λ v. wanted_or (said t (starts v)) (format_spelled (said t (starts v)))) o
unfolding word_meaning
format_word t None = refl
format_word t (Some v) = refl

attribute_word : (t : List ℕ) (h : Head) (o : Option Json) (r : Record) → attribute_record h (word_at (meaning_at t Level.Attribute) o) ≡ Some r → r ≡ Record.Attribute h (word_or_none (λ v. attribute_spelled (said t (starts v))) o)
unfolding word_meaning
attribute_word t h None r e = absurd (cc)
attribute_word t h (Some v) r e = sym (same_Some _ _ e)

value_word : (t : List ℕ) (h : Head) (o : Option Json) (r : Record) → value_record h (word_at (meaning_at t Level.Value) o) ≡ Some r → r ≡ Record.Value h (word_or_none (λ v. value_in (value_meaning (first_kind v) (drop (starts v) t))) o)
value_word t h None r e = absurd (cc)
value_word t h (Some v) r e = sym (same_Some _ _ e)

-- nothing weighs nothing
no_weight : (vs : Entries) → weight_from (λ ms. 0) vs ≡ 0
unfolding weight_from
no_weight no_entry = refl
no_weight (one_entry (scalar x i) vs) = ap (λ n. 0 + n) (no_weight vs)
no_weight (one_entry (object i ms j) vs) = ap (λ n. 0 + n) (no_weight vs)
no_weight (one_entry (array i ws j) vs) = ap (λ n. 0 + n) (no_weight vs)

-- parts of some levels have no default that weighs
no_default : {X : Type 0} (l : Level) (n : ℕ) (xs : List X) → absent_weight l ≡ 0 → n ≡ n + default_parts l xs
no_default l n [] e = rw e (omega arith)
no_default l n (x ∷ xs) e = omega arith

module _ (t : List ℕ) where
  -- the levels, the deepest first
  value_level : IsLevel t Level.Value 5 values_in none_in (λ n i ms ys. value_at t n i ms) (value_weight t) (λ n i ms. tt) (λ ms. 0) (λ n i ms. Record.Value (value_at t n i ms).head (value_at t n i ms).word)
  value_level = record {
    excepts = refl;
    vendors = refl;
    no_task = refl;
    finds = finds_values;
    finds_parts = finds_none;
    lies = λ n i ms. refl;
    seen = λ n i ms rs. refl;
    weighs = λ ms. ap (λ w. 1 + w) (sym (no_weight (entries_named t Key.Values ms))) ∙ no_default Level.Value _ _ refl;
    writes = λ n i ms d r z x c e. value_word t _ (named t Key.Value ms) r (rw (← x.head, ← word_drawn t Level.Value n i ms d z refl) e);
  }

  attribute_level : IsLevel t Level.Attribute 4 attributes_in values_in (λ n i ms ys. record (attribute_at t n i ms) { parts = ys }) (attribute_weight t) (value_at t) (value_weight t) (λ n i ms. Record.Attribute (attribute_at t n i ms).head (attribute_at t n i ms).word)
  attribute_level = record {
    excepts = refl;
    vendors = refl;
    no_task = refl;
    finds = finds_attributes;
    finds_parts = finds_values;
    lies = λ n i ms. refl;
    seen = λ n i ms rs. refl;
    weighs = λ ms. no_default Level.Attribute _ _ refl;
    writes = λ n i ms d r z x c e. attribute_word t _ (named t Key.Attribute ms) r (rw (← x.head, ← word_drawn t Level.Attribute n i ms d z refl) e);
  }

  format_level : IsLevel t Level.PixelFormat 3 formats_in attributes_in (λ n i ms ys. record (format_at t n i ms) { parts = ys }) (format_weight t) (attribute_at t) (attribute_weight t) (λ n i ms. Record.PixelFormat (format_at t n i ms).head (format_at t n i ms).word)
  format_level = record {
    excepts = refl;
    vendors = refl;
    no_task = refl;
    finds = finds_formats;
    finds_parts = finds_attributes;
    lies = λ n i ms. refl;
    seen = λ n i ms rs. refl;
    weighs = λ ms. no_default Level.PixelFormat _ _ refl;
    writes = λ n i ms d r z x c e. sym (same_Some _ _ e) ∙ rw (x.head, word_drawn t Level.PixelFormat n i ms d z refl, format_word t (named t Key.PixelFormat ms)) refl;
  }

  source_level : IsLevel t Level.Source 2 sources_in formats_in (λ n i ms ys. record (source_at t n i ms) { parts = ys }) (source_weight t) (format_at t) (format_weight t) (λ n i ms. Record.Source (source_at t n i ms).head (source_at t n i ms).word)
  source_level = record {
    excepts = refl;
    vendors = refl;
    no_task = refl;
    finds = finds_sources;
    finds_parts = finds_formats;
    lies = λ n i ms. refl;
    seen = λ n i ms rs. refl;
    weighs = λ ms. refl;
    writes = λ n i ms d r z x c e. sym (same_Some _ _ e) ∙ rw (x.head, word_drawn t Level.Source n i ms d z refl, source_word t (named t Key.Source ms)) refl;
  }

  stream_level : IsLevel t Level.Stream 1 streams_in sources_in (λ n i ms ys. record (stream_at t n i ms) { parts = ys }) (stream_weight t) (source_at t) (source_weight t) (λ n i ms. Record.Stream (stream_at t n i ms).head)
  stream_level = record {
    excepts = refl;
    vendors = refl;
    no_task = refl;
    finds = finds_streams;
    finds_parts = finds_sources;
    lies = λ n i ms. refl;
    seen = λ n i ms rs. refl;
    weighs = λ ms. refl;
    writes = λ n i ms d r z x c e. sym (same_Some _ _ e) ∙ rw x.head refl;
  }

  action_level : IsLevel t Level.Action 0 actions_in streams_in (λ n i ms ys. record (action_at t n i ms) { parts = ys }) (action_weight t) (stream_at t) (stream_weight t) (λ n i ms. Record.Action (action_at t n i ms).head (action_at t n i ms).word (action_at t n i ms).entries)
  action_level = record {
    excepts = refl;
    vendors = refl;
    no_task = refl;
    finds = finds_actions;
    finds_parts = finds_streams;
    lies = λ n i ms. refl;
    seen = λ n i ms rs. refl;
    weighs = λ ms. refl;
    writes = λ n i ms d r z x c e. sym (same_Some _ _ e) ∙ rw (x.head, word_drawn t Level.Action n i ms d z refl, c, verb_word t (named t Key.Action ms)) refl;
  }

  -- the arrays of each level, by those of the level below
  value_arrays : Arrays t Level.Value 5 values_in (value_at t) (value_weight t)
  value_arrays = arrays t Level.Value 5 values_in (value_at t) (value_weight t) (level_objects t Level.Value 5 values_in none_in _ (value_weight t) _ _ _ value_level (λ e. absurd (cc)))

  attribute_arrays : Arrays t Level.Attribute 4 attributes_in (attribute_at t) (attribute_weight t)
  attribute_arrays = arrays t Level.Attribute 4 attributes_in (attribute_at t) (attribute_weight t) (level_objects t Level.Attribute 4 attributes_in values_in _ (attribute_weight t) (value_at t) (value_weight t) _ attribute_level (λ e. value_arrays))

  format_arrays : Arrays t Level.PixelFormat 3 formats_in (format_at t) (format_weight t)
  format_arrays = arrays t Level.PixelFormat 3 formats_in (format_at t) (format_weight t) (level_objects t Level.PixelFormat 3 formats_in attributes_in _ (format_weight t) (attribute_at t) (attribute_weight t) _ format_level (λ e. attribute_arrays))

  source_arrays : Arrays t Level.Source 2 sources_in (source_at t) (source_weight t)
  source_arrays = arrays t Level.Source 2 sources_in (source_at t) (source_weight t) (level_objects t Level.Source 2 sources_in formats_in _ (source_weight t) (format_at t) (format_weight t) _ source_level (λ e. format_arrays))

  stream_arrays : Arrays t Level.Stream 1 streams_in (stream_at t) (stream_weight t)
  stream_arrays = arrays t Level.Stream 1 streams_in (stream_at t) (stream_weight t) (level_objects t Level.Stream 1 streams_in sources_in _ (stream_weight t) (source_at t) (source_weight t) _ stream_level (λ e. source_arrays))

  action_arrays : Arrays t Level.Action 0 actions_in (action_at t) (action_weight t)
  action_arrays = arrays t Level.Action 0 actions_in (action_at t) (action_weight t) (level_objects t Level.Action 0 actions_in streams_in _ (action_weight t) (stream_at t) (stream_weight t) _ action_level (λ e. stream_arrays))

  -- the task itself has no record, is never skipped, and weighs nothing
  no_task_default : (rs : List Record) → default_weight Level.Task rs ≡ 0
  no_task_default [] = refl
  no_task_default (r ∷ rs) = refl

  pub task_reads : (v : Json) (o : Lot) → task_read t v ≡ fine o → (actions_in o.records ≡ task_of t v) × (o.weight ≡ weight_of t v)
  unfolding task_read
  task_reads (scalar x i) o z = absurd (cc)
  task_reads (array i vs j) o z = absurd (cc)
  task_reads (object i ms j) o z =
      let a = object_fine t (members_read t ms (begun Level.Task 0 i)) j o z in
      let d = a.0 in
      let s = not_skipped t Level.Task 0 i ms d a.1 refl in
      let h = holds t Level.Task 0 actions_in (action_at t) (action_weight t) (λ e. action_arrays) 0 i ms d a.1 in (
        rw (← a.4, s.0, s.1) (shows_all 0 actions_in d.parts.records (task_of t (object i ms j)) refl h.shows),
        rw (← a.4, s.0, no_task_default d.parts.records, h.weighs) (omega arith),
      )
