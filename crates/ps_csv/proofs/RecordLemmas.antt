-- What the fields of a record say, field by field.
use Rattle.std.proofs.Common.{◌≡◌, ◌≢◌, ◌⊎◌, ◌+◌, ◌<◌, ◌≤◌, ◌∷◌, ◌++◌, ◌∙◌, [], ℕ, List, true, false, map}
use Rattle.std.proofs.Common.{length, take, drop, get_or}
use Rattle.std.proofs.Common.{refl, ap, sym, subst, inl, inr, arith, append_assoc, Option, Some, None, Ok, Err}
use Rattle.std.proofs.Common.{IsSome, Bor}
use Rattle.std.proofs.lemmas.List.{append-nil, drop_more, take-append-drop, take_all, take_more, length-take}
use Rattle.std.specs.Option.{option_map}
use Rattle.std.specs.List.{list_any}
use Rattle.std.specs.List.Sorted.{IsStrictlyIncreasing}
use Rattle.csv.specs.Records.{field_at}
use Rattle.csv.proofs.RecordFacts.{field-get, field-there}
use Rattle.ps_grid.specs.declared.refusal.Refusal.{Refusal}
use Rattle.ps_grid.specs.declared.refusal.Refusal.TheVariants.{ClockFull, Memory}
use Rattle.ps_grid.specs.declared.size.TheConstants.{COLUMNS}
use Rattle.ps_content.specs.declared.content.Content.{Content}
use Rattle.ps_content.specs.Entry.{Reads, kind_of}
use Rattle.ps_delta.specs.State.{State}
use Rattle.ps_delta.specs.Order.{Rising, Under}
use Rattle.ps_delta.proofs.CellLists.{Rising-weaker, increasing_from_rising}
use Rattle.ps_sheet.specs.Edits.{is_clock_full}
use Rattle.ps_csv.specs.Faults.{EntryFault, FieldFault, RecordFault}
use Rattle.ps_csv.specs.Records.{Cells, FieldSays, FieldsSay, Record, place}

-- a refusal is out of memory, or has another cause
pub for_memory : (e : Refusal) → (e ≡ Memory) ⊎ (e ≢ Memory)
for_memory Memory = inl refl
for_memory _ = inr (λ p. cc)

pub says-empty : (s : State) (c : ℕ) (field : List ℕ) → length field ≡ 0 → FieldSays s c field []
unfolding FieldSays
says-empty s c [] e = refl
says-empty s c (b ∷ bs) e = absurd (omega (arith, e))

pub says-entry : (s : State) (c : ℕ) (field : List ℕ) (content : Content) → 0 < length field
    → Reads (kind_of field) field (Ok content) → is_clock_full (s c) ≡ false → FieldSays s c field ((c, content) ∷ [])
unfolding FieldSays
says-entry s c [] content lt reads free = absurd (omega (arith, lt))
says-entry s c (b ∷ bs) content lt reads free = (content, reads, free, refl)

pub fault-entry : (s : State) (c : ℕ) (field : List ℕ) (e : Refusal) → 0 < length field
    → Reads (kind_of field) field (Err e) → (e ≡ Memory) ⊎ EntryFault s c field e
unfolding EntryFault
fault-entry s c [] e lt reads = absurd (omega (arith, lt))
fault-entry s c (b ∷ bs) e lt reads =
    elim (for_memory e) [ inl memory ↦ inl memory | inr other ↦ inr (inl (reads, other)) ]

pub fault-full : (s : State) (c : ℕ) (field : List ℕ) (content : Content) → 0 < length field
    → Reads (kind_of field) field (Ok content) → is_clock_full (s c) ≡ true → EntryFault s c field ClockFull
unfolding EntryFault
fault-full s c [] content lt reads full = absurd (omega (arith, lt))
fault-full s c (b ∷ bs) content lt reads full = inr (content, reads, full, refl)

-- no field yet
pub fields_say-none : (s : State) (n : ℕ) (fields : Record) (cells : Cells) → cells ≡ []
    → FieldsSay s n 0 (take 0 fields) cells
unfolding FieldsSay
fields_say-none s n [] cells e = e
fields_say-none s n (f ∷ fields) cells e = e

-- one more field
pub fields_say-push : (s : State) (n j : ℕ) (fields : Record) (field : List ℕ) (cells here : Cells)
    → FieldsSay s n j fields cells
    → j + length fields < COLUMNS → FieldSays s (place n (j + length fields)) field here
    → FieldsSay s n j (fields ++ field ∷ []) (cells ++ here)
unfolding FieldsSay
fields_say-push s n j [] field cells here said lt says =
    let place_is : j + 0 ≡ j = omega arith in (
      here,
      [],
      omega (arith, lt),
      subst (λ (k : ℕ). FieldSays s (place n k) field here) place_is says,
      refl,
      ap (λ (xs : Cells). xs ++ here) said ∙ sym (append-nil here),
    )
fields_say-push s n j (f ∷ fields) field cells here said lt says =
    let next : j + length (f ∷ fields) ≡ (j + 1) + length fields = omega arith in
    let says_there = subst (λ (k : ℕ). FieldSays s (place n k) field here) next says in (
      said.0,
      said.1 ++ here,
      said.2,
      said.3,
      fields_say-push s n (j + 1) fields field said.1 here said.4 (omega (arith, lt)) says_there,
      ap (λ (xs : Cells). xs ++ here) said.5 ∙ append_assoc said.0 said.1 here,
    )

-- the cells of a record ascend
pub fields_say-rising : (s : State) (n j : ℕ) (fields : Record) (cells : Cells) → FieldsSay s n j fields cells
    → Rising (place n j) (map (λ e. e.0) cells)
unfolding FieldsSay FieldSays
fields_say-rising s n j [] cells said = subst (λ (xs : Cells). Rising (place n j) (map (λ e. e.0) xs)) (sym said) tt
fields_say-rising s n j ([] ∷ fields) cells said =
    let same : cells ≡ said.1 = said.5 ∙ ap (λ (xs : Cells). xs ++ said.1) said.3 in
    let later = fields_say-rising s n (j + 1) fields said.1 said.4 in
    subst (λ (xs : Cells). Rising (place n j) (map (λ e. e.0) xs)) (sym same)
    (Rising-weaker (place n j) (place n (j + 1)) (map (λ e. e.0) said.1) (omega arith) later)
fields_say-rising s n j ((b ∷ bs) ∷ fields) cells said =
    let same : cells ≡ (place n j, said.3.0) ∷ said.1 = said.5 ∙ ap (λ (xs : Cells). xs ++ said.1) said.3.3 in
    let later = fields_say-rising s n (j + 1) fields said.1 said.4 in
    let next : place n (j + 1) ≡ place n j + 1 = omega arith in
    subst (λ (xs : Cells). Rising (place n j) (map (λ e. e.0) xs)) (sym same)
    (omega arith, subst (λ (k : ℕ). Rising k (map (λ e. e.0) said.1)) next later)

-- the first fields of a record, and one more
pub fields_say-more : (s : State) (n j : ℕ) (fields : Record) (field : List ℕ) (cells here : Cells)
    → j < length fields
    → get_or fields j [] ≡ field → FieldsSay s n 0 (take j fields) cells → j < COLUMNS
    → FieldSays s (place n j) field here
    → FieldsSay s n 0 (take (j + 1) fields) (cells ++ here)
fields_say-more s n j fields field cells here lt is said column says =
    let size : length (take j fields) ≡ j = length-take j fields ∙ omega arith in
    let at : 0 + length (take j fields) ≡ j = omega arith in
    let says_there = subst (λ (k : ℕ). FieldSays s (place n k) field here) (sym at) says in
    let more = fields_say-push s n 0 (take j fields) field cells here said (omega arith) says_there in
    rw (take_more fields j [] lt, is) more

-- a field at fault after fields that have no fault
pub record_fault : (s : State) (n j : ℕ) (fields : Record) (field : List ℕ) (cells : Cells) (e : Refusal)
    → j < length fields
    → get_or fields j [] ≡ field → FieldsSay s n 0 (take j fields) cells → FieldFault s n j field e
    → RecordFault s n fields e
record_fault s n j fields field cells e lt is said fault =
    let size : j ≡ length (take j fields) = omega (arith, length-take j fields) in
    record {
      before = take j fields;
      field = field;
      after = drop (j + 1) fields;
      cells = cells;
      split = sym (take-append-drop j fields) ∙ ap (λ (xs : Record). take j fields ++ xs) (drop_more fields j [] lt)
          ∙ ap (λ (f : List ℕ). take j fields ++ f ∷ drop (j + 1) fields) is;
      said = said;
      fault = subst (λ (k : ℕ). FieldFault s n k field e) size fault;
    }

-- the same for the field that a record has at this position
pub entry_fault : (s : State) (n j c : ℕ) (fields : Record) (field : List ℕ) (cells : Cells) (e : Refusal)
    → j < length fields
    → get_or fields j [] ≡ field → FieldsSay s n 0 (take j fields) cells → j < COLUMNS → c ≡ place n j
    → (e ≡ Memory) ⊎ EntryFault s c field e → (e ≡ Memory) ⊎ RecordFault s n fields e
entry_fault s n j c fields field cells e lt is said column at (inl memory) = inl memory
entry_fault s n j c fields field cells e lt is said column at (inr fault) =
    let there = subst (λ (k : ℕ). EntryFault s k field e) at fault in
    inr (record_fault s n j fields field cells e lt is said (inr (column, there)))

-- what one more field says, where its cell and its cells were named before
pub more_said : (s : State) (n j c : ℕ) (fields : Record) (field : List ℕ) (old new : Cells) → j < length fields
    → get_or fields j [] ≡ field → FieldsSay s n 0 (take j fields) old → j < COLUMNS → c ≡ place n j
    → (here : Cells) × FieldSays s c field here × (new ≡ old ++ here) → FieldsSay s n 0 (take (j + 1) fields) new
more_said s n j c fields field old new lt is said column at more =
    let says = subst (λ (k : ℕ). FieldSays s k field more.0) at more.1 in
    subst (λ (xs : Cells). FieldsSay s n 0 (take (j + 1) fields) xs) (sym more.2)
    (fields_say-more s n j fields field old more.0 lt is said column says)

-- at the last field
pub fields_say-all : (s : State) (n j : ℕ) (fields : Record) (cells : Cells) → length fields ≤ j
    → FieldsSay s n 0 (take j fields) cells → FieldsSay s n 0 fields cells
fields_say-all s n j fields cells le said =
    subst (λ (xs : Record). FieldsSay s n 0 xs cells) (take_all j fields le) said

-- the field that a record has at a position
pub field_given : (fields : Record) (j : ℕ) (got : Option (Bor (List ℕ))) (x : Bor (List ℕ))
    → option_map (λ f. f.now) got ≡ field_at fields j → got ≡ Some x → get_or fields j [] ≡ x.now
field_given fields j got x value is = field-get fields j x.now (sym value ∙ ap (option_map (λ f. f.now)) is)

pub field_is_there : (fields : Record) (j : ℕ) (got : Option (Bor (List ℕ)))
    → option_map (λ f. f.now) got ≡ field_at fields j → j < length fields → IsSome got
field_is_there fields j None value lt = absurd (field-there fields j lt (sym value))
field_is_there fields j (Some x) value lt = refl

-- the cells of a record ascend strictly
pub fields_say-ascending : (s : State) (n : ℕ) (fields : Record) (cells : Cells) → FieldsSay s n 0 fields cells
    → IsStrictlyIncreasing (map (λ e. e.0) cells)
fields_say-ascending s n fields cells said =
    increasing_from_rising (place n 0) (map (λ e. e.0) cells) (fields_say-rising s n 0 fields cells said)

-- the cells of a record lie in its row
pub fields_say-under : (s : State) (n j : ℕ) (fields : Record) (cells : Cells) → FieldsSay s n j fields cells
    → Under (place (n + 1) 0) (map (λ e. e.0) cells)
unfolding FieldsSay FieldSays
fields_say-under s n j [] cells said =
    subst (λ (xs : Cells). Under (place (n + 1) 0) (map (λ e. e.0) xs)) (sym said) tt
fields_say-under s n j ([] ∷ fields) cells said =
    let same : cells ≡ said.1 = said.5 ∙ ap (λ (xs : Cells). xs ++ said.1) said.3 in
    subst (λ (xs : Cells). Under (place (n + 1) 0) (map (λ e. e.0) xs)) (sym same)
    (fields_say-under s n (j + 1) fields said.1 said.4)
fields_say-under s n j ((b ∷ bs) ∷ fields) cells said =
    let same : cells ≡ (place n j, said.3.0) ∷ said.1 = said.5 ∙ ap (λ (xs : Cells). xs ++ said.1) said.3.3 in
    let column : j < COLUMNS = said.2 in
    subst (λ (xs : Cells). Under (place (n + 1) 0) (map (λ e. e.0) xs)) (sym same)
    (omega (arith, column), fields_say-under s n (j + 1) fields said.1 said.4)

-- no register of the cells has the last time, also in a state that is the same from the record's first cell on
pub clocks_free : (s t : State) (n j : ℕ) (fields : Record) (cells : Cells) → FieldsSay s n j fields cells
    → ((c : ℕ) → place n j ≤ c → t c ≡ s c) → list_any (λ e. is_clock_full (t e.0)) cells ≡ false
unfolding FieldsSay FieldSays
clocks_free s t n j [] cells said same = rw said
clocks_free s t n j ([] ∷ fields) cells said same =
    let is : cells ≡ said.1 = said.5 ∙ ap (λ (xs : Cells). xs ++ said.1) said.3 in
    rw is (clocks_free s t n (j + 1) fields said.1 said.4 (λ c le. same c (omega (arith, le))))
clocks_free s t n j ((b ∷ bs) ∷ fields) cells said same =
    let is : cells ≡ (place n j, said.3.0) ∷ said.1 = said.5 ∙ ap (λ (xs : Cells). xs ++ said.1) said.3.3 in
    let free : is_clock_full (t (place n j)) ≡ false = ap is_clock_full (same (place n j) (omega arith)) ∙ said.3.2 in
    rw (is, free) (clocks_free s t n (j + 1) fields said.1 said.4 (λ c le. same c (omega (arith, le))))
