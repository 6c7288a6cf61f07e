-- What the answers of a read say of how far it has come.
use Rattle.std.proofs.Common.{◌≡◌, ℕ, ◌+◌, ◌^◌, ◌<◌, ◌≤◌, ◌≢◌, Bool, true, false, cond, List, [], ◌∷◌, ◌++◌, length, drop, get_or, set, Option, Some, None, arith, rules, ap, ◌∙◌, sym, refl, subst, eqb}
use Rattle.std.specs.Prelude.{nat_lt, slice_index, bit_xor}
use Rattle.std.proofs.lemmas.Nat.{xor_lt, pow_below, pow_pos}
use Rattle.std.proofs.lemmas.List.{length_push, length-drop}
use Rattle.std.proofs.lemmas.Bool.{eq-eqb}
use Rattle.std.proofs.lemmas.Bool.Decides.{nat_tests}
use Rattle.mj_angles.specs.declared.layout.Layout.{Layout}
use Rattle.mj_angles.specs.Layout.{inverse_of, safe_of}
use Rattle.rz_events.specs.declared.keys.Key.{Key}
use Rattle.rz_events.specs.declared.files.Published.{Published}
use Rattle.rz_events.specs.declared.records.Held.{Held}
use Rattle.rz_events.specs.declared.ends.Seen.{Seen}
use Rattle.rz_events.specs.declared.ends.Seen.TheVariants as seen
use Rattle.rz_events.specs.declared.ends.ReadMark.{ReadMark}
use Rattle.rz_events.specs.declared.ends.ReadMark.TheVariants as mark
use Rattle.rz_events.specs.declared.nodes.FetchAnswer.TheVariants as fetch
use Rattle.rz_events.specs.declared.machines.ReaderAsk.TheVariants as ask
use Rattle.rz_events.specs.declared.machines.ReaderAnswer.{ReaderAnswer}
use Rattle.rz_events.specs.declared.machines.ReaderAnswer.TheVariants as told
use Rattle.rz_client_model.specs.declared.reading.ReaderState.{ReaderState}
use Rattle.rz_client_model.specs.declared.reading.ReadStage.{ReadStage}
use Rattle.rz_client_model.specs.declared.reading.ReadStage.TheVariants.{Looking, Fetching, Ended}
use Rattle.rz_client_model.specs.declared.reading.Fetches.{Fetches}
use Rattle.rz_client_model.specs.Read.{reader_start, reader_ask, reader_told, reader_end, ask_at, end_at, none_fetched, next_position, with_seen, with_record, unless_enough, after_answer, IsReaderAnswer, IsLookAnswer, IsFetchAnswer}
use Rattle.rz_events.specs.Masks.{stamp_told}
use Rattle.rz_block_io_laws.specs.Reads.{after, AreAnswers, looked, mask_of, stamp_in, asked_in, lengths, given_in, length_in, order, next_in, table, end_of_fetches, end_of_recheck, end_after, unless_ended, next_ask, ask_after, AsksInOrder, EndsExactly}
use Rattle.rz_client_model.proofs.Masks.{in-below, safe-few}
use Rattle.rz_block_io_laws.proofs.Positions.{pending, pending-all, pending-none, pending-next, length-order, left-some, left-first}

-- the stage after these answers
abbrev pub stage_after : Layout → (List ReaderAnswer → Bool) → List ReaderAnswer → ReadStage
stage_after layout fits [] = Looking
stage_after layout fits (answer ∷ earlier) = after_answer layout (fits (answer ∷ earlier)) (stage_after layout fits earlier) answer

abbrev pub state_at : Layout → Key → List ℕ → ReadStage → ReaderState
state_at layout key places stage = record { layout = layout; key = key; places = places; stage = stage }

pub after-is : (layout : Layout) (key : Key) (places : List ℕ) (fits : List ReaderAnswer → Bool) (answers : List ReaderAnswer) →
    after fits (reader_start layout key places) answers ≡ state_at layout key places (stage_after layout fits answers)
after-is layout key places fits [] = refl
after-is layout key places fits (answer ∷ earlier) =
    ap (λ s. reader_told (fits (answer ∷ earlier)) s answer) (after-is layout key places fits earlier)

-- what a read has fetched is what its answers say
pub record IsFetching (layout : Layout) (fits : List ReaderAnswer → Bool) (answers : List ReaderAnswer) (t : Fetches) : Type 0 where
  pub begun : 0 < length answers
  pub stamp_is : t.stamp ≡ stamp_in answers
  pub mask_is : t.mask ≡ mask_of (looked answers)
  pub given_is : t.given ≡ given_in answers
  pub length_is : t.length ≡ length_in answers
  pub seen_is : t.seen ≡ table layout answers
  pub fewer : nat_lt t.given (inverse_of layout) ≡ true
  pub few : t.left < 2 ^ safe_of layout
  pub asked_most : asked_in answers ≤ safe_of layout
  pub left_is : pending t.left t.mask (safe_of layout) ≡ drop (asked_in answers) (order layout t.mask)
  pub on : end_after layout fits answers ≡ None

abbrev pub IsCourse : Layout → (List ReaderAnswer → Bool) → List ReaderAnswer → ReadStage → Type 0
IsCourse layout fits answers Looking = answers ≡ []
IsCourse layout fits answers (Fetching t) = IsFetching layout fits answers t
IsCourse layout fits answers (Ended e) = end_after layout fits answers ≡ Some e

some-enough : (layout : Layout) → nat_lt 0 (inverse_of layout) ≡ true
some-enough layout = grind (arith, nat_tests)

-- while too few records came, a read goes on
goes-on : (layout : Layout) (fit : Bool) (given n : ℕ) (e : ReadMark) → given ≡ n → nat_lt given (inverse_of layout) ≡ true →
    cond (nat_lt n (inverse_of layout)) None (Some e) ≡ None
goes-on layout fit given n e is fewer =
    ap (λ m. cond (nat_lt m (inverse_of layout)) None (Some e)) (sym is) ∙ ap (λ b. cond b None (Some e)) fewer

-- The position that comes next.

first-left : (layout : Layout) (fits : List ReaderAnswer → Bool) (answers : List ReaderAnswer) (t : Fetches) → IsFetching layout fits answers t → 0 < t.left →
    drop (asked_in answers) (order layout t.mask) ≡ next_position t ∷ pending (bit_xor t.left (2 ^ next_position t)) t.mask (safe_of layout)
first-left layout fits answers t h some = sym h.left_is ∙ (pending-next t.left t.mask (safe_of layout) some h.few (safe-few layout)).1

next-is : (layout : Layout) (fits : List ReaderAnswer → Bool) (answers : List ReaderAnswer) (t : Fetches) → IsFetching layout fits answers t → 0 < t.left →
    next_position t ≡ next_in layout answers
next-is layout fits answers t h some =
    sym (left-first (order layout t.mask) (asked_in answers) (next_position t) _ (first-left layout fits answers t h some)).0
    ∙ ap (λ m. get_or (order layout m) (asked_in answers) 0) h.mask_is

not-all : (layout : Layout) (fits : List ReaderAnswer → Bool) (answers : List ReaderAnswer) (t : Fetches) → IsFetching layout fits answers t → 0 < t.left →
    asked_in answers < safe_of layout
not-all layout fits answers t h some =
    omega (arith, left-some (order layout t.mask) (asked_in answers) (next_position t) _ (first-left layout fits answers t h some), length-order layout t.mask)

-- One more position was asked.

module _ (layout : Layout) (fits : List ReaderAnswer → Bool) (answers new : List ReaderAnswer) (t : Fetches) (w : Seen) (h : IsFetching layout fits answers t) (some : 0 < t.left)
    (begun : 0 < length new) (stamp_same : stamp_in new ≡ stamp_in answers) (mask_same : mask_of (looked new) ≡ mask_of (looked answers))
    (asked_same : asked_in new ≡ asked_in answers + 1) (table_same : table layout new ≡ set (table layout answers) (next_in layout answers) w)
    (end_is : end_after layout fits new ≡ end_of_fetches layout (fits new) new) where
  -- a stage that has as many records as came, where these are too few
  asked-more : (given size : ℕ) → given ≡ given_in new → size ≡ length_in new → nat_lt given (inverse_of layout) ≡ true →
      IsFetching layout fits new (record t {
        left = bit_xor t.left (2 ^ next_position t);
        seen = set t.seen (next_position t) w;
        given = given;
        length = size;
      })
  asked-more given size given_is length_is fewer =
      let one = (pending-next t.left t.mask (safe_of layout) some h.few (safe-few layout)).0 in
      let p = next_position t in
      let place : p < safe_of layout = in-below t.left (safe_of layout) p h.few one in
      let within : asked_in answers < safe_of layout = not-all layout fits answers t h some in
      record {
        begun = begun;
        stamp_is = h.stamp_is ∙ sym stamp_same;
        mask_is = h.mask_is ∙ sym mask_same;
        given_is = given_is;
        length_is = length_is;
        seen_is = ap (λ xs. set xs p w) h.seen_is ∙ ap (λ q. set (table layout answers) q w) (next-is layout fits answers t h some) ∙ sym table_same;
        fewer = fewer;
        few = xor_lt (safe_of layout) t.left (2 ^ p) h.few (pow_below p (safe_of layout) place);
        asked_most = omega (arith, within, asked_same);
        left_is = sym (left-first (order layout t.mask) (asked_in answers) p _ (first-left layout fits answers t h some)).1 ∙ ap (λ k. drop k (order layout t.mask)) (sym asked_same);
        on = end_is ∙ goes-on layout true given (given_in new) _ given_is fewer;
      }

  -- no record of the stamp came
  pub seen-course : given_in new ≡ given_in answers → length_in new ≡ length_in answers → IsCourse layout fits new (Fetching (with_seen t w))
  seen-course given_same length_same = asked-more t.given t.length (h.given_is ∙ sym given_same) (h.length_is ∙ sym length_same) h.fewer

  -- a record of the stamp came
  pub record-course : (size : ℕ) → w ≡ seen.Held → t.given + 1 ≡ given_in new → cond (eqb t.given 0) size t.length ≡ length_in new →
      IsCourse layout fits new (unless_enough layout (fits new) (with_record t size))
  record-course size held given_is length_is = go (nat_lt (t.given + 1) (inverse_of layout)) refl where
    go : (b : Bool) → nat_lt (t.given + 1) (inverse_of layout) ≡ b → IsCourse layout fits new (cond b (Fetching (with_record t size))
        (Ended (cond (fits new) (mark.Found t.stamp (cond (eqb t.given 0) size t.length)) mark.Inconsistent)))
    go true test =
        subst (λ (v : Seen). IsFetching layout fits new (record t {
          left = bit_xor t.left (2 ^ next_position t);
          seen = set t.seen (next_position t) v;
          given = t.given + 1;
          length = cond (eqb t.given 0) size t.length;
        })) held (asked-more (t.given + 1) (cond (eqb t.given 0) size t.length) given_is length_is test)
    go false test =
        end_is
        ∙ ap (λ n. cond (nat_lt n (inverse_of layout)) None (Some (cond (fits new) (mark.Found (stamp_in new) (length_in new)) mark.Inconsistent))) (sym given_is)
        ∙ ap (λ b. cond b None (Some (cond (fits new) (mark.Found (stamp_in new) (length_in new)) mark.Inconsistent))) test
        ∙ ap (λ s. Some (cond (fits new) (mark.Found s (length_in new)) mark.Inconsistent)) (stamp_same ∙ sym h.stamp_is)
        ∙ ap (λ n. Some (cond (fits new) (mark.Found t.stamp n) mark.Inconsistent)) (sym length_is)

not-same : (a b : ℕ) → a ≢ b → eqb a b ≡ false
not-same a b h = go (eqb a b) refl where
  go : (c : Bool) → eqb a b ≡ c → c ≡ false
  go true e = absurd (let same : a ≡ b = search (rules, nat_tests) in h same)
  go false e = refl

-- the first record's length is the text's
first-length : (sizes : List ℕ) (size : ℕ) → cond (eqb (length sizes) 0) size (get_or sizes 0 0) ≡ get_or (sizes ++ size ∷ []) 0 0
first-length [] size = refl
first-length (x ∷ xs) size = ap (λ b. cond b size x) (not-same (length (x ∷ xs)) 0 (λ e. omega (arith, e)))

sizes-after : (answers : List ReaderAnswer) (t : Fetches) (r : Held) (b : Bool) → t.stamp ≡ stamp_in answers → eqb r.stamp t.stamp ≡ b →
    lengths (stamp_in answers) (told.Fetched (fetch.Held r) ∷ answers)
    ≡ cond b (lengths (stamp_in answers) answers ++ r.length ∷ []) (lengths (stamp_in answers) answers)
sizes-after answers t r b is test =
    ap (λ x. cond x (lengths (stamp_in answers) answers ++ r.length ∷ []) (lengths (stamp_in answers) answers)) (ap (eqb r.stamp) (sym is) ∙ test)

held-course : (layout : Layout) (fits : List ReaderAnswer → Bool) (answers : List ReaderAnswer) (t : Fetches) (r : Held) → IsFetching layout fits answers t → 0 < t.left → (b : Bool) →
    eqb r.stamp t.stamp ≡ b → IsCourse layout fits (told.Fetched (fetch.Held r) ∷ answers)
    (cond b (unless_enough layout (fits (told.Fetched (fetch.Held r) ∷ answers)) (with_record t r.length)) (Fetching (with_seen t seen.Held)))
held-course layout fits answers t r h some true test =
    let sizes : List ℕ = lengths (stamp_in answers) answers in
    let are = sizes-after answers t r true h.stamp_is test in
    record-course layout fits answers (told.Fetched (fetch.Held r) ∷ answers) t seen.Held h some (omega arith) refl refl refl refl refl r.length refl
    (ap (λ n. n + 1) h.given_is ∙ sym (length_push sizes r.length) ∙ sym (ap length are))
    (ap (λ n. cond (eqb n 0) r.length t.length) h.given_is ∙ ap (λ n. cond (eqb (length sizes) 0) r.length n) h.length_is
    ∙ first-length sizes r.length ∙ sym (ap (λ xs. get_or xs 0 0) are))
held-course layout fits answers t r h some false test =
    let are = sizes-after answers t r false h.stamp_is test in
    seen-course layout fits answers (told.Fetched (fetch.Held r) ∷ answers) t seen.Held h some (omega arith) refl refl refl refl refl
    (ap length are) (ap (λ xs. get_or xs 0 0) are)

-- an answer to a fetch
fetch-course : (layout : Layout) (fits : List ReaderAnswer → Bool) (answers : List ReaderAnswer) (t : Fetches) (answer : ReaderAnswer) → IsFetching layout fits answers t → 0 < t.left →
    IsFetchAnswer layout answer → IsCourse layout fits (answer ∷ answers) (after_answer layout (fits (answer ∷ answers)) (Fetching t) answer)
fetch-course layout fits answers t (told.Fetched (fetch.Held r)) h some asked = held-course layout fits answers t r h some (eqb r.stamp t.stamp) refl
fetch-course layout fits answers t (told.Fetched fetch.Nothing) h some asked =
    seen-course layout fits answers (told.Fetched fetch.Nothing ∷ answers) t seen.Nothing h some (omega arith) refl refl refl refl refl refl refl
fetch-course layout fits answers t (told.Fetched fetch.Lost) h some asked =
    seen-course layout fits answers (told.Fetched fetch.Lost ∷ answers) t seen.Lost h some (omega arith) refl refl refl refl refl refl refl
fetch-course layout fits answers t (told.Fetched fetch.Down) h some asked =
    seen-course layout fits answers (told.Fetched fetch.Down ∷ answers) t seen.Down h some (omega arith) refl refl refl refl refl refl refl
fetch-course layout fits answers t (told.Fetched fetch.DiskFault) h some asked =
    seen-course layout fits answers (told.Fetched fetch.DiskFault ∷ answers) t seen.DiskFault h some (omega arith) refl refl refl refl refl refl refl
fetch-course layout fits answers t told.Missed h some asked =
    seen-course layout fits answers (told.Missed ∷ answers) t seen.Missed h some (omega arith) refl refl refl refl refl refl refl
fetch-course layout fits answers t (told.Looked p) h some asked = absurd asked
fetch-course layout fits answers t (told.Denied denial) h some asked = absurd asked

-- the second look
recheck-end : (layout : Layout) (fits : List ReaderAnswer → Bool) (answers : List ReaderAnswer) (p : Option Published) → 0 < length answers →
    end_after layout fits (told.Looked p ∷ answers) ≡ Some (end_of_recheck (stamp_told p) (stamp_in answers) (table layout answers))
recheck-end layout fits [] p some = absurd (omega (arith, some))
recheck-end layout fits (x ∷ xs) p some = refl

recheck-course : (layout : Layout) (fits : List ReaderAnswer → Bool) (answers : List ReaderAnswer) (t : Fetches) (answer : ReaderAnswer) → IsFetching layout fits answers t →
    IsLookAnswer layout answer → IsCourse layout fits (answer ∷ answers) (after_answer layout (fits (answer ∷ answers)) (Fetching t) answer)
recheck-course layout fits answers t (told.Looked p) h asked =
    recheck-end layout fits answers p h.begun
    ∙ ap (λ s. Some (end_of_recheck (stamp_told p) s (table layout answers))) (sym h.stamp_is)
    ∙ ap (λ w. Some (end_of_recheck (stamp_told p) t.stamp w)) (sym h.seen_is)
recheck-course layout fits answers t (told.Denied denial) h asked = refl
recheck-course layout fits answers t (told.Fetched a) h asked = absurd asked
recheck-course layout fits answers t told.Missed h asked = absurd asked

fetching-course : (layout : Layout) (fits : List ReaderAnswer → Bool) (answers : List ReaderAnswer) (t : Fetches) (answer : ReaderAnswer) (position node : ℕ) → IsFetching layout fits answers t → (b : Bool) →
    eqb t.left 0 ≡ b → IsReaderAnswer layout (cond b ask.Recheck (ask.Fetch position node t.stamp)) answer →
    IsCourse layout fits (answer ∷ answers) (after_answer layout (fits (answer ∷ answers)) (Fetching t) answer)
fetching-course layout fits answers t answer position node h true test asked = recheck-course layout fits answers t answer h asked
fetching-course layout fits answers t answer position node h false test asked =
    let some : t.left ≢ 0 = search (rules, nat_tests) in fetch-course layout fits answers t answer h (omega (arith, some)) asked

-- the look
published-course : (layout : Layout) (fits : List ReaderAnswer → Bool) (p : Published) → IsFetching layout fits (told.Looked (Some p) ∷ []) (none_fetched layout p)
published-course layout fits p = record {
  begun = omega arith;
  stamp_is = refl;
  mask_is = refl;
  given_is = refl;
  length_is = refl;
  seen_is = refl;
  fewer = some-enough layout;
  few = omega (arith, pow_pos (safe_of layout));
  asked_most = omega arith;
  left_is = pending-all layout p.mask;
  on = refl;
}

look-course : (layout : Layout) (fits : List ReaderAnswer → Bool) (answers : List ReaderAnswer) (answer : ReaderAnswer) → answers ≡ [] → IsLookAnswer layout answer →
    IsCourse layout fits (answer ∷ answers) (after_answer layout (fits (answer ∷ answers)) Looking answer)
look-course layout fits [] (told.Looked None) e asked = refl
look-course layout fits [] (told.Looked (Some p)) e asked = published-course layout fits p
look-course layout fits [] (told.Denied denial) e asked = refl
look-course layout fits [] (told.Fetched a) e asked = absurd asked
look-course layout fits [] told.Missed e asked = absurd asked
look-course layout fits (x ∷ xs) answer e asked = absurd (let z : x ∷ xs ≡ [] = e in cc)

-- one more answer
step : (layout : Layout) (key : Key) (places : List ℕ) (fits : List ReaderAnswer → Bool) (answers : List ReaderAnswer) (answer : ReaderAnswer) (stage : ReadStage) →
    IsCourse layout fits answers stage → IsReaderAnswer layout (ask_at (state_at layout key places stage) stage) answer →
    IsCourse layout fits (answer ∷ answers) (after_answer layout (fits (answer ∷ answers)) stage answer)
step layout key places fits answers answer Looking h asked = look-course layout fits answers answer h asked
step layout key places fits answers answer (Fetching t) h asked =
    fetching-course layout fits answers t answer (next_position t) (slice_index places (next_position t)) h (eqb t.left 0) refl asked
step layout key places fits answers answer (Ended e) h asked = absurd asked

pub course : (layout : Layout) (key : Key) (places : List ℕ) (fits : List ReaderAnswer → Bool) (answers : List ReaderAnswer) →
    AreAnswers fits (reader_start layout key places) answers → IsCourse layout fits answers (stage_after layout fits answers)
course layout key places fits [] h = refl
course layout key places fits (answer ∷ earlier) h =
    let asked : IsReaderAnswer layout (reader_ask (state_at layout key places (stage_after layout fits earlier))) answer =
    subst (λ (s : ReaderState). IsReaderAnswer layout (reader_ask s) answer) (after-is layout key places fits earlier) h.1 in
    step layout key places fits earlier answer (stage_after layout fits earlier) (course layout key places fits earlier h.0) asked

-- How it ends.

end-is : (layout : Layout) (fits : List ReaderAnswer → Bool) (answers : List ReaderAnswer) (stage : ReadStage) → IsCourse layout fits answers stage →
    end_at stage ≡ end_after layout fits answers
end-is layout fits [] Looking h = refl
end-is layout fits (x ∷ xs) Looking h = absurd (let z : x ∷ xs ≡ [] = h in cc)
end-is layout fits answers (Fetching t) h = sym h.on
end-is layout fits answers (Ended e) h = sym h

pub ends-exactly : EndsExactly
ends-exactly layout key places fits answers h =
    ap reader_end (after-is layout key places fits answers)
    ∙ end-is layout fits answers (stage_after layout fits answers) (course layout key places fits answers h)

-- What it asks.

not-first : (layout : Layout) (places : List ℕ) (fits : List ReaderAnswer → Bool) (answers : List ReaderAnswer) → 0 < length answers →
    ask_after layout places fits answers ≡ unless_ended (end_after layout fits answers) (next_ask layout places answers)
not-first layout places fits [] some = absurd (omega (arith, some))
not-first layout places fits (x ∷ xs) some = refl

-- all positions were asked exactly where none is left
none-left : (layout : Layout) (fits : List ReaderAnswer → Bool) (answers : List ReaderAnswer) (t : Fetches) → IsFetching layout fits answers t → t.left ≡ 0 →
    asked_in answers ≡ safe_of layout
none-left layout fits answers t h none =
    let empty : drop (asked_in answers) (order layout t.mask) ≡ [] =
    sym h.left_is ∙ ap (λ n. pending n t.mask (safe_of layout)) none ∙ pending-none t.mask (safe_of layout) in
    omega (arith, ap length empty, length-drop (asked_in answers) (order layout t.mask), length-order layout t.mask, h.asked_most)

fetching-ask : (layout : Layout) (places : List ℕ) (fits : List ReaderAnswer → Bool) (answers : List ReaderAnswer) (t : Fetches) → IsFetching layout fits answers t → (b : Bool) →
    eqb t.left 0 ≡ b →
    cond b ask.Recheck (ask.Fetch (next_position t) (slice_index places (next_position t)) t.stamp) ≡ next_ask layout places answers
fetching-ask layout places fits answers t h true test =
    let none : t.left ≡ 0 = search (rules, nat_tests) in
    sym (ap (λ b. cond b ask.Recheck (ask.Fetch (next_in layout answers) (slice_index places (next_in layout answers)) (stamp_in answers)))
    (eq-eqb (asked_in answers) (safe_of layout) (none-left layout fits answers t h none)))
fetching-ask layout places fits answers t h false test =
    let some : t.left ≢ 0 = search (rules, nat_tests) in
    let left : 0 < t.left = omega (arith, some) in
    let more : eqb (asked_in answers) (safe_of layout) ≡ false = not-same (asked_in answers) (safe_of layout) (λ e. omega (arith, e, not-all layout fits answers t h left)) in
    ap (λ p. ask.Fetch p (slice_index places p) t.stamp) (next-is layout fits answers t h left)
    ∙ ap (λ s. ask.Fetch (next_in layout answers) (slice_index places (next_in layout answers)) s) h.stamp_is
    ∙ sym (ap (λ b. cond b ask.Recheck (ask.Fetch (next_in layout answers) (slice_index places (next_in layout answers)) (stamp_in answers))) more)

ask-is : (layout : Layout) (key : Key) (places : List ℕ) (fits : List ReaderAnswer → Bool) (answers : List ReaderAnswer) (stage : ReadStage) → IsCourse layout fits answers stage →
    ask_at (state_at layout key places stage) stage ≡ ask_after layout places fits answers
ask-is layout key places fits [] Looking h = refl
ask-is layout key places fits (x ∷ xs) Looking h = absurd (let z : x ∷ xs ≡ [] = h in cc)
ask-is layout key places fits answers (Fetching t) h =
    fetching-ask layout places fits answers t h (eqb t.left 0) refl
    ∙ ap (λ e. unless_ended e (next_ask layout places answers)) (sym h.on) ∙ sym (not-first layout places fits answers h.begun)
ask-is layout key places fits [] (Ended e) h = absurd (let z : None ≡ Some e = h in cc)
ask-is layout key places fits (x ∷ xs) (Ended e) h = ap (λ o. unless_ended o (next_ask layout places (x ∷ xs))) (sym h)

pub asks-in-order : AsksInOrder
asks-in-order layout key places fits answers h =
    ap reader_ask (after-is layout key places fits answers)
    ∙ ask-is layout key places fits answers (stage_after layout fits answers) (course layout key places fits answers h)
