-- From one published block to the next.
use Rattle.std.proofs.Common.{ℕ, ◌≡◌, ◌<◌, ◌≤◌, ◌+◌, ◌∙◌, Bool, true, false, cond, List, [], ◌∷◌, ◌++◌, Option, Some, None, refl, sym, ap, arith, subst, append_assoc}
use Rattle.std.specs.Prelude.{count_by}
use Rattle.std.specs.Option.{option_map, option_and_then, option_or}
use Rattle.std.specs.Ordering.{is_lt}
use Rattle.std.specs.declared.cmp.Ordering.{Ordering}
use Rattle.std.specs.declared.cmp.Ordering.TheVariants.{Less, Equal, Greater}
use Rattle.std.specs.FinMap as maps
use Rattle.std.proofs.lemmas.Bool.{false≢true}
use Rattle.std.proofs.lemmas.List.{append-nil}
use Rattle.std.proofs.lemmas.Cmp.{tied_itself}
use Rattle.std.proofs.lemmas.List.Sums.{sum_by-cons}
use Rattle.std.proofs.lemmas.Option.{same_Some}
use Rattle.mj_angles.specs.declared.layout.Layout.{Layout}
use Rattle.rz_events.specs.Keys.{key_cmp, keys_total}
use Rattle.rz_events.specs.declared.keys.Key.{Key}
use Rattle.rz_events.specs.declared.files.FileInfo.{FileInfo}
use Rattle.rz_events.specs.declared.files.Listed.{Listed}
use Rattle.rz_events.specs.declared.files.Published.{Published}
use Rattle.rz_events.specs.declared.records.Held.{Held}
use Rattle.rz_export_model.specs.Export.{Block, Export, is_after, listed_at, published_after}
use Rattle.rz_export_model.specs.Firsts.{first_given, given_if}
use Rattle.rz_export_model.specs.Tree.{file_of}
use Rattle.rz_scrub_report.specs.declared.finding.Finding.{Finding}
use Rattle.rz_scrub_report.specs.Asks.{AreRecordsFound}
use Rattle.rz_scrub_report.specs.Lines.{line_of}
use Rattle.rz_scrub_report.specs.Scrubs.{AreListed, AreFindingsTold, IsScrubbed}
use Rattle.rz_scrub_report.specs.Stores.{State}

abbrev pub Entries : Type 0
Entries = List (Key × Block)

-- how many entries stand after a key
abbrev pub after_count : Option Key → Entries → ℕ
after_count after es = count_by (λ e. is_after after e.0) es

-- what is listed of an entry after a key
abbrev pub given : Export → Option Key → Key × Block → Option Listed
given s after e = cond (is_after after e.0) (option_and_then (λ l. given_if true l) (listed_at s.tree e.0 e.1)) None

abbrev pub bit : Bool → ℕ
bit b = cond b 1 0

count-cons : (after : Option Key) (e : Key × Block) (es : Entries) → after_count after (e ∷ es) ≡ bit (is_after after e.0) + after_count after es
count-cons after e es = sum_by-cons (λ (x : Key × Block). bit (is_after after x.0)) e es

-- A key above another one.

is-less : (o : Ordering) → is_lt o ≡ true → o ≡ Less
is-less Less h = refl
is-less Equal h = absurd (false≢true h)
is-less Greater h = absurd (false≢true h)

later : (after : Option Key) (k q : Key) → is_after after k ≡ true → is_after (Some k) q ≡ true → is_after after q ≡ true
later None k q h h' = refl
later (Some a) k q h h' = ap is_lt (keys_total.trans a k q (is-less (key_cmp a k) h) (is-less (key_cmp k q) h'))

not-itself : (k : Key) → is_after (Some k) k ≡ false
not-itself k = ap is_lt (tied_itself keys_total k)

fewer-of : (a b : Bool) → (a ≡ true → b ≡ true) → bit a ≤ bit b
fewer-of true b h = let e : bit b ≡ bit true = ap bit (h refl) in omega (arith, e)
fewer-of false b h = omega arith

fewer : (after : Option Key) (k : Key) → is_after after k ≡ true → (es : Entries) → after_count (Some k) es ≤ after_count after es
fewer after k h [] = omega arith
fewer after k h (e ∷ es) =
    omega (arith, count-cons (Some k) e es, count-cons after e es, fewer after k h es, fewer-of (is_after (Some k) e.0) (is_after after e.0) (later after k e.0 h))

-- What is listed has the key of its entry.

key-of : (key : Key) (o : Option FileInfo) (q : Option Published) (l : Listed)
    → option_and_then (λ l'. given_if true l') (option_and_then (λ (info : FileInfo). option_map (λ (p : Published). (let x : Listed = record { key = key; info = info; published = p } in x)) q) o) ≡ Some l
    → key ≡ l.key
key-of key None q l h = cc
key-of key (Some info) None l h = cc
key-of key (Some info) (Some p) l h =
    ap (λ (x : Listed). x.key) (same_Some (let x : Listed = record { key = key; info = info; published = p } in x) l h)

given-is : (s : Export) (after : Option Key) (e : Key × Block) (l : Listed) → given s after e ≡ Some l → (is_after after e.0 ≡ true) × (e.0 ≡ l.key)
given-is s after e l h = by_test (is_after after e.0) refl h
  where
    by_test : (b : Bool) → is_after after e.0 ≡ b → cond b (option_and_then (λ l'. given_if true l') (listed_at s.tree e.0 e.1)) None ≡ Some l
        → (is_after after e.0 ≡ true) × (e.0 ≡ l.key)
    by_test true is h' = (is, key-of e.0 (file_of s.tree e.0.fid) e.1.published l h')
    by_test false is h' = cc

-- The first block that is listed stands after the key, and fewer entries stand after it.

abbrev Falls : Option Key → Listed → Entries → Type 0
Falls after l es = (is_after after l.key ≡ true) × (after_count (Some l.key) es < after_count after es)

falls-here : (after : Option Key) (l : Listed) (e : Key × Block) (es : Entries) → e.0 ≡ l.key → is_after after e.0 ≡ true → Falls after l (e ∷ es)
falls-here after l e es at is =
    let above : is_after after l.key ≡ true = subst (λ (k : Key). is_after after k ≡ true) at is in
    let none : is_after (Some l.key) e.0 ≡ false = subst (λ (k : Key). is_after (Some l.key) k ≡ false) (sym at) (not-itself l.key) in
    let zero_is : bit (is_after (Some l.key) e.0) ≡ bit false = ap bit none in
    let one_is : bit (is_after after e.0) ≡ bit true = ap bit is in
    (above, omega (arith, zero_is, one_is, count-cons (Some l.key) e es, count-cons after e es, fewer after l.key above es))

falls-later : (after : Option Key) (l : Listed) (e : Key × Block) (es : Entries) → Falls after l es → Falls after l (e ∷ es)
falls-later after l e es both =
    let less = both.1 in
    (both.0, omega (arith, less, count-cons (Some l.key) e es, count-cons after e es, fewer-of (is_after (Some l.key) e.0) (is_after after e.0) (later after l.key e.0 both.0)))

falls-by : (s : Export) (after : Option Key) (l : Listed) (e : Key × Block) (es : Entries) (o : Option Listed) → given s after e ≡ o
    → (first_given (given s after) es ≡ Some l → Falls after l es) → option_or o (first_given (given s after) es) ≡ Some l → Falls after l (e ∷ es)
falls-by s after l e es (Some x) is rest h = let at = given-is s after e l (is ∙ h) in falls-here after l e es at.1 at.0
falls-by s after l e es None is rest h = falls-later after l e es (rest h)

falls-among : (s : Export) (after : Option Key) (l : Listed) (es : Entries) → first_given (given s after) es ≡ Some l → Falls after l es
falls-among s after l [] h = cc
falls-among s after l (e ∷ es) h = falls-by s after l e es (given s after e) refl (falls-among s after l es) h

pub falls : (s : Export) (after : Option Key) (l : Listed) → published_after s after ≡ Some l
    → after_count (Some l.key) (maps.entries s.blocks) < after_count after (maps.entries s.blocks)
falls s after l h = (falls-among s after l (maps.entries s.blocks) h).1

-- The lines so far, and the line of one block more: whatever the rest comes to.

abbrev pub IsSoFar : Layout → (ℕ → Key → Held → List ℕ → List ℕ → Type 0) → State → List ℕ → Option Key → State → Type 0
IsSoFar layout gives first text after w = (blocks : List Listed) (rest : List ℕ) (next : State)
    → AreListed first.export after blocks → AreFindingsTold layout gives blocks w rest next → IsScrubbed layout gives first (text ++ rest) next

pub none-yet : (layout : Layout) (gives : ℕ → Key → Held → List ℕ → List ℕ → Type 0) (first : State) → IsSoFar layout gives first [] None first
none-yet layout gives first blocks rest next listed told = (blocks, listed, told)

pub one-more : (layout : Layout) (gives : ℕ → Key → Held → List ℕ → List ℕ → Type 0) (first : State) (text text' : List ℕ) (after : Option Key) (w mid : State)
    (l : Listed) (finding : Finding) → published_after first.export after ≡ Some l → AreRecordsFound layout gives l w finding mid
    → text' ≡ text ++ line_of layout l.key finding
    → IsSoFar layout gives first text after w → IsSoFar layout gives first text' (Some l.key) mid
one-more layout gives first text text' after w mid l finding at found is so_far blocks rest next listed told =
    let line = line_of layout l.key finding in
    let whole = so_far (l ∷ blocks) (line ++ rest) next (at, listed) (mid, finding, rest, found, told, refl) in
    let P : List ℕ → Type 0 = λ xs. IsScrubbed layout gives first xs next in
    subst P (sym (append_assoc text line rest) ∙ ap (λ (xs : List ℕ). xs ++ rest) (sym is)) whole

pub all-told : (layout : Layout) (gives : ℕ → Key → Held → List ℕ → List ℕ → Type 0) (first : State) (text : List ℕ) (after : Option Key) (w : State)
    → published_after first.export after ≡ None → IsSoFar layout gives first text after w → IsScrubbed layout gives first text w
all-told layout gives first text after w none so_far =
    let P : List ℕ → Type 0 = λ xs. IsScrubbed layout gives first xs w in
    subst P (append-nil text) (so_far [] [] w none (refl, refl))
