-- The walk over the words of one argument, by what `clap` knows of it.
use Rattle.std.proofs.Common.{◌≡◌, ◌∷◌, ◌∙◌, ◌++◌, ◌&&◌, if◌then◌else◌, [], ℕ, Bool, List, None, Option, Some, ap, append-nil, append_assoc, bytes_eq, false, fold, inl, inr, length, nat_lt, refl, subst, sym, true}
use Rattle.std.proofs.lemmas.Bool.{and_left, cases_Bool}
use Rattle.std.proofs.lemmas.List.Folds.{find-append}
use Rattle.std.proofs.lemmas.Slice.Eq.{bytes_eq-Decides}
use Rattle.std.specs.List.{AllByRecursion}
use Rattle.std.specs.Option.{option_map_or, option_or}
use Rattle.clap.specs.Facts.{unwrap_or_range}
use Rattle.clap.specs.Faults.{settle_fault, use_fault, values_fault, walk_fault}
use Rattle.clap.specs.Kinds.{Kinds, or_else, range_kinds}
use Rattle.clap.specs.Simple.{Shape}
use Rattle.clap.specs.Walk.{Held, Row, Rule, Text, Walk, action_of, arg_by_id, arg_by_index, arg_by_long, has_row, idle, is_multiple, is_pending, most_values, next, next_position, option, plain_word, positional, pushed, reacted, reading_by, settled, takes_several, takes_values, used, value, walked}
use Rattle.clap.specs.declared.builder.action.ArgAction.TheVariants.{Set}
use Rattle.clap.specs.declared.builder.value_parser.Reading.TheVariants as reading
use Rattle.duk_program.specs.Written.{IsPlainArgument, option_named}
use Rattle.duk_program.proofs.CommandRows.{no_row, row_at, row_with, same_bytes, used_at}
use Rattle.duk_program.proofs.PlainWords.{GoesOn, IsOption, Leads, going_on, option_leads, plain_leads}

-- what was found under each name
abbrev pub Known : Type 0
Known = Text → Option Row

-- these texts under a name, and before it what was known
abbrev pub knowing : Known → Text → List Text → Known
knowing known name texts other = if bytes_eq name other then Some (row_with name texts) else known other

-- a use of an argument with these values leaves these texts, and has no fault
pub record Leaves (a : Rule) (values texts : List Text) : Type 0 where
  pub rows : (rows : List Row) → has_row a.id rows ≡ false
      → used a values rows ≡ rows ++ row_with a.id texts ∷ []
  pub quiet : (again : Bool) (rows : List Row) → has_row a.id rows ≡ false
      → use_fault again a values rows ≡ []

pub leaves_values : (a : Rule) (text : Text) (more : List Text) → action_of a ≡ Set
    → reading_by a ≡ reading.AsWritten
    → range_kinds (unwrap_or_range a.range).start_inclusive (most_values a) (length (text ∷ more)) ≡ []
    → values_fault a (text ∷ more) ≡ [] → Leaves a (text ∷ more) (text ∷ more)
leaves_values a text more action how many pass = record {
  rows = λ rows fresh. rw (action, how) (used_at a.id (text ∷ more) rows fresh);
  quiet = λ again rows fresh. rw (many, action, fresh) pass;
}

-- the walk goes on, waits for no value, and knows this when what is pending is used
pub record Stands (s : Shape) (w : Walk) (known : Known) : Type 0 where
  pub on : GoesOn w
  pub takes : (word : Text) (h : Held) → plain_word s.rules w.waiting word h ≡ (h, value)
  pub knows : (name : Text) → row_at name (settled s.rules w.held).rows ≡ known name
  pub quiet : settle_fault s.rules s.args_override_self w.held ≡ []
  pub apart : (name : Text) → known name ≡ None
      → option_map_or (λ (p : Text × List Text). bytes_eq p.0 name) w.held.pending false ≡ false

-- the words are read without a fault, and the walk stands then at this position
pub record Reads (s : Shape) (w : Walk) (words : List Text) (known : Known) (position : ℕ) : Type 0 where
  pub stands : Stands s (fold (walked s.rules []) w words) known
  pub quiet : walk_fault s [] w words ≡ []
  pub place : (fold (walked s.rules []) w words).position ≡ position

-- a word, and the words after it
reads_word : (s : Shape) (w v : Walk) (word : Text) (words : List Text) (known : Known) (position : ℕ)
    → Leads s w word v → Reads s v words known position → Reads s w (word ∷ words) known position
unfolding walk_fault
reads_word s w v word words known position leads reads = record {
  stands = subst (λ (u : Walk). Stands s (fold (walked s.rules []) u words) known) (sym leads.walks) reads.stands;
  quiet = rw (leads.quiet, leads.walks) reads.quiet;
  place = ap (λ (u : Walk). (fold (walked s.rules []) u words).position) leads.walks ∙ reads.place;
}

pub reads_nothing : (s : Shape) (w : Walk) (known : Known) → Stands s w known → Reads s w [] known w.position
unfolding walk_fault
reads_nothing s w known stands = record { stands = stands; quiet = refl; place = refl }

or_else_parts : (a b : Kinds) → or_else a b ≡ [] → (a ≡ []) × (b ≡ [])
or_else_parts [] b none = (refl, none)
or_else_parts (k ∷ a) b none = cc

-- words, and more words
pub reads_more : (s : Shape) (w : Walk) (words more : List Text) (known after : Known) (position last : ℕ)
    → Reads s w words known position → Reads s (fold (walked s.rules []) w words) more after last
    → Reads s w (words ++ more) after last
unfolding walk_fault
reads_more s w [] more known after position last reads later = later
reads_more s w (word ∷ words) more known after position last reads later =
    let parts = or_else_parts _ (walk_fault s [] (walked s.rules [] w word) words) reads.quiet in
    reads_word s w (walked s.rules [] w word) word (words ++ more) after last
    (record { walks = refl; quiet = parts.0 })
    (reads_more s (walked s.rules [] w word) words more known after position last
    (record { stands = reads.stands; quiet = parts.1; place = reads.place }) later)

or_none : (found : Option Row) → option_or found None ≡ found
or_none None = refl
or_none (Some row) = refl

-- one row more is known
knows_more : (rows : List Row) (known : Known) (name : Text) (texts : List Text)
    → ((other : Text) → row_at other rows ≡ known other) → known name ≡ None → (other : Text)
    → row_at other (rows ++ row_with name texts ∷ []) ≡ knowing known name texts other
knows_more rows known name texts knows fresh other =
    find-append (λ (row : Row). bytes_eq row.id other) rows (row_with name texts ∷ [])
    ∙ elim (cases_Bool (bytes_eq name other)) [
      | inl same ↦
          let none : row_at other rows ≡ None =
          knows other ∙ ap known (sym ((bytes_eq-Decides name other).0 same)) ∙ fresh in
          rw (same, none) refl
      | inr differs ↦ rw differs (or_none (row_at other rows) ∙ knows other)
    ]

apart_more : (known : Known) (name : Text) (texts : List Text) (other : Text)
    → knowing known name texts other ≡ None → bytes_eq name other ≡ false
apart_more known name texts other none = elim (cases_Bool (bytes_eq name other)) [
  | inl same ↦
      let bad : Some (row_with name texts) ≡ None = rw same at none in
      cc
  | inr differs ↦ differs
]

-- a walk that holds an argument with these values stands
stands_by : (s : Shape) (w v : Walk) (known : Known) (a : Rule) (values texts : List Text)
    → Stands s w known → known a.id ≡ None → arg_by_id s.rules a.id ≡ Some a → Leaves a values texts
    → GoesOn v → ((word : Text) (h : Held) → plain_word s.rules v.waiting word h ≡ (h, value))
    → v.held.pending ≡ Some (a.id, values) → v.held.rows ≡ (settled s.rules w.held).rows
    → Stands s v (knowing known a.id texts)
stands_by s w v known a values texts stands fresh found leaves on takes pending held =
    let before = (settled s.rules w.held).rows in
    let new : has_row a.id before ≡ false = no_row a.id before (stands.knows a.id ∙ fresh) in
    record {
      on = on;
      takes = takes;
      knows = λ name. rw (pending, found, held, leaves.rows before new)
          (knows_more before known a.id texts stands.knows fresh name);
      quiet = rw (pending, found, held) (leaves.quiet s.args_override_self before new);
      apart = λ name none. rw pending (apart_more known a.id texts name none);
    }

-- a text of an argument that is no option, by whether others of it are pending
abbrev with_text : Shape → Walk → Rule → Text → Bool → Walk
with_text s v a text pending = record {
  held = pushed a.id text (if pending then v.held else settled s.rules v.held);
  waiting = if is_multiple a then positional else idle;
  position = next_position a v.position;
  is_trailing = false;
  stopped = None;
}

text_leads : (s : Shape) (v : Walk) (a : Rule) (text : Text) (pending : Bool) → GoesOn v
    → plain_word s.rules v.waiting text v.held ≡ (v.held, value) → IsPlainArgument text
    → arg_by_index s.rules v.position ≡ Some a → a.trailing_var_arg ≡ false
    → (is_pending a v.held.pending && takes_several a) ≡ pending
    → (if pending then [] else settle_fault s.rules s.args_override_self v.held) ≡ []
    → Leads s v text (with_text s v a text pending)
text_leads s v a text pending on takes plain place ends mine quiet =
    plain_leads s v (with_text s v a text pending) text on plain (v.held, value) takes
    (rw (place, mine, ends) refl) (rw (place, mine) quiet)

waits_for_none : (s : Shape) (several : Bool) (word : Text) (h : Held)
    → plain_word s.rules (if several then positional else idle) word h ≡ (h, value)
waits_for_none s true word h = refl
waits_for_none s false word h = refl

-- what a walk over the texts of an argument that is no option starts from
pub record IsPlace (s : Shape) (w : Walk) (known : Known) (a : Rule) : Type 0 where
  pub stands : Stands s w known
  pub fresh : known a.id ≡ None
  pub found : arg_by_id s.rules a.id ≡ Some a
  pub place : arg_by_index s.rules w.position ≡ Some a
  pub ends : a.trailing_var_arg ≡ false

module _ (s : Shape) (w : Walk) (known : Known) (a : Rule) (is : IsPlace s w known a) where
  first_leads : (text : Text) → IsPlainArgument text → Leads s w text (with_text s w a text false)
  first_leads text plain =
      text_leads s w a text false is.stands.on (is.stands.takes text w.held) plain is.place is.ends
      (and_left _ (takes_several a) (is.stands.apart a.id is.fresh)) is.stands.quiet

  pub reads_single : (text : Text) → IsPlainArgument text → Leaves a (text ∷ []) (text ∷ [])
      → Reads s w (text ∷ []) (knowing known a.id (text ∷ [])) (next_position a w.position)
  reads_single text plain leaves =
      let v = with_text s w a text false in
      reads_word s w v text [] (knowing known a.id (text ∷ [])) (next_position a w.position)
      (first_leads text plain) (reads_nothing s v (knowing known a.id (text ∷ []))
      (stands_by s w v known a (text ∷ []) (text ∷ []) is.stands is.fresh is.found leaves
      (record { goes = refl; reads = refl }) (waits_for_none s (is_multiple a)) refl refl))

  -- the walk when it has read these texts, and may read more
  record Collects (v : Walk) (texts : List Text) : Type 0 where
    on : GoesOn v
    waits : v.waiting ≡ positional
    pending : v.held.pending ≡ Some (a.id, texts)
    held : v.held.rows ≡ (settled s.rules w.held).rows
    at : v.position ≡ w.position

  module _ (several : takes_several a ≡ true) where
    stays : (position : ℕ) → next_position a position ≡ position
    stays position = rw several refl

    takes : (v : Walk) (texts : List Text) → Collects v texts → (word : Text) (h : Held)
        → plain_word s.rules v.waiting word h ≡ (h, value)
    takes v texts collects word h = rw collects.waits refl

    one_more : (v : Walk) (texts : List Text) (text : Text) → Collects v texts → IsPlainArgument text
        → Leads s v text (with_text s v a text true) × Collects (with_text s v a text true) (texts ++ text ∷ [])
    one_more v texts text collects plain = (
      text_leads s v a text true collects.on (takes v texts collects text v.held) plain
          (ap (arg_by_index s.rules) collects.at ∙ is.place) is.ends
          (rw (collects.pending, same_bytes a.id, several) refl) refl,
      record {
        on = record { goes = refl; reads = refl };
        waits = rw several refl;
        pending = rw collects.pending refl;
        held = collects.held;
        at = stays v.position ∙ collects.at;
      },
    )

    all_more : (v : Walk) (texts more : List Text) → Collects v texts → AllByRecursion IsPlainArgument more
        → Leaves a (texts ++ more) (texts ++ more)
        → Reads s v more (knowing known a.id (texts ++ more)) w.position
    all_more v texts [] collects plain leaves =
        subst (λ (all : List Text). Reads s v [] (knowing known a.id all) w.position) (sym (append-nil texts))
        (subst (Reads s v [] (knowing known a.id texts)) collects.at
        (reads_nothing s v (knowing known a.id texts)
        (stands_by s w v known a texts texts is.stands is.fresh is.found
        (subst (λ (all : List Text). Leaves a all all) (append-nil texts) leaves) collects.on
        (takes v texts collects) collects.pending collects.held)))
    all_more v texts (text ∷ more) collects plain leaves =
        let one = one_more v texts text collects plain.0 in
        let next = with_text s v a text true in
        let joined = append_assoc texts (text ∷ []) more in
        reads_word s v next text more (knowing known a.id (texts ++ text ∷ more)) w.position one.0
        (subst (λ (all : List Text). Reads s next more (knowing known a.id all) w.position) joined
        (all_more next (texts ++ text ∷ []) more one.1 plain.1
        (subst (λ (all : List Text). Leaves a all all) (sym joined) leaves)))

    pub reads_several : (text : Text) (more : List Text) → AllByRecursion IsPlainArgument (text ∷ more)
        → Leaves a (text ∷ more) (text ∷ more)
        → Reads s w (text ∷ more) (knowing known a.id (text ∷ more)) w.position
    reads_several text more plain leaves =
        let v = with_text s w a text false in
        reads_word s w v text more (knowing known a.id (text ∷ more)) w.position (first_leads text plain.0)
        (all_more v (text ∷ []) more (record {
          on = record { goes = refl; reads = refl };
          waits = rw several refl;
          pending = refl;
          held = refl;
          at = stays w.position;
        }) plain.1 leaves)

-- what a walk over an option starts from
pub record IsNamed (s : Shape) (w : Walk) (known : Known) (a : Rule) : Type 0 where
  pub stands : Stands s w known
  pub fresh : known a.id ≡ None
  pub found : arg_by_id s.rules a.id ≡ Some a
  pub long : arg_by_long s.rules a.id ≡ Some a
  pub is : IsOption a.id

module _ (s : Shape) (w : Walk) (known : Known) (a : Rule) (named : IsNamed s w known a) where
  pub reads_option : (text : Text) → IsPlainArgument text → takes_values a ≡ true
      → nat_lt 1 (most_values a) ≡ false → Leaves a (text ∷ []) (text ∷ [])
      → Reads s w (option_named a.id ∷ text ∷ []) (knowing known a.id (text ∷ [])) w.position
  reads_option text plain values one leaves =
      let waiting : Walk = record (going_on w) {
        held = record (settled s.rules w.held) { pending = Some (a.id, []) };
        waiting = option a.id;
      } in
      let v : Walk = record waiting { held = pushed a.id text waiting.held; waiting = idle } in
      let done = knowing known a.id (text ∷ []) in
      reads_word s w waiting (option_named a.id) (text ∷ []) done w.position
      (option_leads s w waiting a.id named.stands.on named.is (waiting.held, next (option a.id))
      (rw (named.long, values) refl) refl (rw (named.long, values) named.stands.quiet) refl)
      (reads_word s waiting v text [] done w.position
      (plain_leads s waiting v text (record { goes = refl; reads = refl }) plain (v.held, next idle)
      (rw (named.found, same_bytes a.id, one) refl) refl refl)
      (reads_nothing s v done
      (stands_by s w v known a (text ∷ []) (text ∷ []) named.stands named.fresh named.found leaves
      (record { goes = refl; reads = refl }) (λ word h. refl) refl refl)))

  pub reads_flag : (texts : List Text) → takes_values a ≡ false → Leaves a [] texts
      → Reads s w (option_named a.id ∷ []) (knowing known a.id texts) w.position
  reads_flag texts values leaves =
      let before = (settled s.rules w.held).rows in
      let new : has_row a.id before ≡ false = no_row a.id before (named.stands.knows a.id ∙ named.fresh) in
      let v : Walk = record (going_on w) { held = reacted s.rules a [] w.held; waiting = idle } in
      reads_word s w v (option_named a.id) [] (knowing known a.id texts) w.position
      (option_leads s w v a.id named.stands.on named.is (v.held, next idle) (rw (named.long, values) refl) refl
      (rw (named.long, values, named.stands.quiet) (leaves.quiet s.args_override_self before new)) refl)
      (reads_nothing s v (knowing known a.id texts) (record {
        on = record { goes = refl; reads = refl };
        takes = λ word h. refl;
        knows = λ name. rw (leaves.rows before new) (knows_more before known a.id texts named.stands.knows named.fresh name);
        quiet = refl;
        apart = λ name none. refl;
      }))
