-- What the answers of a write say of how far it has come.
use Rattle.std.proofs.Common.{◌≡◌, ℕ, suc, ◌+◌, ◌-◌, ◌<◌, ◌≤◌, Bool, true, false, cond, List, [], ◌∷◌, ◌++◌, length, get_or, set, replicate, arith, rules, ap, ◌∙◌, sym, refl, subst}
use Rattle.std.specs.Prelude.{nat_lt, count_by, slice_index, IsTrue, ◌↔◌}
use Rattle.std.specs.Int.{bit_at}
use Rattle.std.proofs.lemmas.List.{set-append_left, length_push, length-set}
use Rattle.std.proofs.lemmas.Bool.Decides.{nat_tests}
use Rattle.mj_angles.specs.declared.layout.Layout.{Layout}
use Rattle.mj_angles.specs.Layout.{forward_of, safe_of}
use Rattle.rz_events.specs.declared.keys.Key.{Key}
use Rattle.rz_events.specs.declared.ends.Why.{Why}
use Rattle.rz_events.specs.declared.ends.Why.TheVariants.{NotAsked, Enrolled, Missed}
use Rattle.rz_events.specs.declared.ends.WriteEnd.{WriteEnd}
use Rattle.rz_events.specs.declared.ends.WriteEnd.TheVariants as end
use Rattle.rz_events.specs.declared.machines.WriterAsk.TheVariants as ask
use Rattle.rz_events.specs.declared.machines.WriterAnswer.{WriterAnswer}
use Rattle.rz_events.specs.declared.machines.WriterAnswer.TheVariants as told
use Rattle.rz_client_model.specs.declared.writing.WriterState.{WriterState}
use Rattle.rz_client_model.specs.declared.writing.WriteStage.{WriteStage}
use Rattle.rz_client_model.specs.declared.writing.WriteStage.TheVariants.{Beginning, Sending, Ended}
use Rattle.rz_client_model.specs.declared.writing.SentRecords.{SentRecords}
use Rattle.rz_client_model.specs.Write.{why_of, is_kept, mask_of, none_sent, ask_at, writer_start, writer_ask, writer_told, after_answer, after_enrolled, unless_too_few, IsWriterAnswer, IsKeepAnswer, IsPublishAnswer}
use Rattle.rz_block_io_laws.specs.Writes.{after, AreAnswers, stamp_in, base_in, outcomes, table, kept_in, failed_in, IsNewest, IsAskAfter, IsEndAfter, AsksInOrder}
use Rattle.rz_client_model.proofs.Masks.{safe-few, forward-less, one-if, bit_at-mask_of, mask_of-append}
use Rattle.rz_block_io_laws.proofs.Tables.{set-append-replicate, one-true, within, count-push, count-set}

-- the stage after these answers
abbrev pub stage_after : Layout → List WriterAnswer → WriteStage
stage_after layout [] = Beginning
stage_after layout (answer ∷ earlier) = after_answer layout (stage_after layout earlier) answer

abbrev pub state_at : Layout → Key → List ℕ → ℕ → WriteStage → WriterState
state_at layout key places size stage = record { layout = layout; key = key; places = places; length = size; stage = stage }

pub after-is : (layout : Layout) (key : Key) (places : List ℕ) (size : ℕ) (answers : List WriterAnswer) →
    after (writer_start layout key places size) answers ≡ state_at layout key places size (stage_after layout answers)
after-is layout key places size [] = refl
after-is layout key places size (answer ∷ earlier) = ap (λ s. writer_told s answer) (after-is layout key places size earlier)

-- an answer after which a write goes on
abbrev pub is_going : WriterAnswer → Bool
is_going (told.Begun stamp base) = true
is_going (told.Kept answer) = true
is_going told.Missed = true
is_going (told.Enrolled position fence) = true
is_going answer = false

abbrev pub IsGoing : List WriterAnswer → Type 0
IsGoing [] = ⊥
IsGoing (answer ∷ earlier) = is_going answer ≡ true

pub going-newest : (answers : List WriterAnswer) (a : WriterAnswer) → IsGoing answers → IsNewest a answers → is_going a ≡ true
going-newest [] a going newest = absurd going
going-newest (x ∷ xs) a going newest = ap is_going (sym newest) ∙ going

pub newest-same : (answers : List WriterAnswer) (a b : WriterAnswer) → IsNewest a answers → IsNewest b answers → a ≡ b
newest-same [] a b p q = absurd p
newest-same (x ∷ xs) a b p q = sym p ∙ q

-- what a write has sent is what its answers say
pub record IsSending (layout : Layout) (answers : List WriterAnswer) (t : SentRecords) : Type 0 where
  pub stamp_is : t.stamp ≡ stamp_in answers
  pub base_is : t.base ≡ base_in answers
  pub why_is : t.why ≡ table answers
  pub kept_is : t.kept ≡ kept_in answers
  pub asked_is : t.kept + t.failed ≡ length (outcomes answers)
  pub few : t.kept ≤ forward_of layout
  pub spare : t.failed + forward_of layout ≤ safe_of layout
  pub going : IsGoing answers

-- and an end is told by them, and by no others
abbrev pub IsOverSo : Layout → List WriterAnswer → WriteEnd → Type 0
IsOverSo layout answers (end.TooFew why) = IsGoing answers
IsOverSo layout answers e = failed_in answers + forward_of layout ≤ safe_of layout

abbrev pub IsCourse : Layout → List WriterAnswer → WriteStage → Type 0
IsCourse layout answers Beginning = answers ≡ []
IsCourse layout answers (Sending t) = IsSending layout answers t
IsCourse layout answers (Ended e) = IsEndAfter layout answers e × IsOverSo layout answers e

-- more has been sent, and an end comes where too much has failed
module _ (layout : Layout) (new : List WriterAnswer) (t : SentRecords) (stamp_is : t.stamp ≡ stamp_in new) (base_is : t.base ≡ base_in new)
    (why_is : t.why ≡ table new) (kept_is : t.kept ≡ kept_in new) (asked_is : t.kept + t.failed ≡ length (outcomes new))
    (few : t.kept ≤ forward_of layout) (going : IsGoing new) where
  pub sent-more : t.failed + forward_of layout ≤ safe_of layout → IsCourse layout new (Sending t)
  sent-more spare = record {
    stamp_is = stamp_is;
    base_is = base_is;
    why_is = why_is;
    kept_is = kept_is;
    asked_is = asked_is;
    few = few;
    spare = spare;
    going = going;
  }

  pub failed-more : (b : Bool) → nat_lt (safe_of layout - forward_of layout) t.failed ≡ b →
      IsCourse layout new (cond b (Ended (end.TooFew t.why)) (Sending t))
  failed-more true test =
      let failed : failed_in new ≡ t.failed = omega (arith, kept_is, asked_is) in
      let past : safe_of layout - forward_of layout < t.failed = search (rules, nat_tests) in
      let many : safe_of layout - forward_of layout < failed_in new = omega (arith, failed, past) in
      ((many, why_is), going)
  failed-more false test =
      let past : t.failed ≤ safe_of layout - forward_of layout = search (rules, nat_tests) in
      sent-more (omega (arith, past, forward-less layout))

-- what came of the next position
module _ (layout : Layout) (answers new : List WriterAnswer) (w : Why) (t : SentRecords) (h : IsSending layout answers t) (more : t.kept < forward_of layout)
    (stamp_same : stamp_in new ≡ stamp_in answers) (base_same : base_in new ≡ base_in answers)
    (outcomes_are : outcomes new ≡ outcomes answers ++ w ∷ []) (going : IsGoing new) where
  asked-more : length (outcomes new) ≡ t.kept + t.failed + 1
  asked-more = ap length outcomes_are ∙ length_push (outcomes answers) w ∙ ap (λ n. n + 1) (sym h.asked_is)

  why-more : set t.why (t.kept + t.failed) w ≡ table new
  why-more =
      let n : t.kept + t.failed < 16 = omega (arith, h.spare, safe-few layout) in
      let next : 16 - length (outcomes answers) ≡ suc (16 - length (outcomes new)) = omega (arith, asked-more, h.asked_is) in
      ap (λ ws. set ws (t.kept + t.failed) w) h.why_is
      ∙ set-append-replicate (outcomes answers) w NotAsked (16 - length (outcomes answers)) (16 - length (outcomes new)) (t.kept + t.failed) next (sym h.asked_is)
      ∙ ap (λ ws. ws ++ replicate (16 - length (outcomes new)) NotAsked) (sym outcomes_are)

  kept-more : (b : Bool) → is_kept w ≡ b → t.kept + cond b 1 0 ≡ kept_in new
  kept-more b is = ap (λ n. n + cond b 1 0) h.kept_is ∙ sym (count-push (outcomes answers) w b is) ∙ ap (count_by is_kept) (sym outcomes_are)

  after-keep : (b : Bool) → is_kept w ≡ b → IsCourse layout new (cond b
      (Sending (record t { kept = t.kept + 1; why = set t.why (t.kept + t.failed) w }))
      (unless_too_few layout (record t { failed = t.failed + 1; why = set t.why (t.kept + t.failed) w })))
  after-keep true is =
      sent-more layout new (record t { kept = t.kept + 1; why = set t.why (t.kept + t.failed) w })
      (h.stamp_is ∙ sym stamp_same) (h.base_is ∙ sym base_same) why-more (kept-more true is) (omega (arith, asked-more)) (omega (arith, more)) going h.spare
  after-keep false is =
      let kept : t.kept ≡ kept_in new = omega (arith, kept-more false is) in
      failed-more layout new (record t { failed = t.failed + 1; why = set t.why (t.kept + t.failed) w })
      (h.stamp_is ∙ sym stamp_same) (h.base_is ∙ sym base_same) why-more kept (omega (arith, asked-more)) (omega (arith, more)) going _ refl

-- a position of the mask has failed after all
after-enrolled-course : (layout : Layout) (answers : List WriterAnswer) (t : SentRecords) (position fence : ℕ) → IsSending layout answers t →
    bit_at (mask_of t.why) position ≡ 1 → IsCourse layout (told.Enrolled position fence ∷ answers) (after_enrolled layout t position)
after-enrolled-course layout answers t position fence h named =
    let ws = outcomes answers in
    let same : mask_of t.why ≡ mask_of ws = ap mask_of h.why_is ∙ mask_of-append ws (16 - length ws) in
    let one : ◌≡◌ {A = ℕ} (cond (is_kept (get_or ws position NotAsked)) 1 0) 1 = sym (bit_at-mask_of ws position) ∙ ap (λ m. bit_at m position) (sym same) ∙ named in
    let kept : is_kept (get_or ws position NotAsked) ≡ true = one-if _ one in
    let place : position < length ws = within ws position kept in
    let sized = length-set ws position Enrolled in
    let less = count-set ws position kept in
    let new : List WriterAnswer = told.Enrolled position fence ∷ answers in
    let why : set t.why position Enrolled ≡ table new =
    ap (λ xs. set xs position Enrolled) h.why_is
    ∙ set-append_left ws (replicate (16 - length ws) NotAsked) position Enrolled place
    ∙ ap (λ n. set ws position Enrolled ++ replicate (16 - n) NotAsked) (sym sized) in
    failed-more layout new (record t { kept = t.kept - 1; failed = t.failed + 1; why = set t.why position Enrolled })
    h.stamp_is h.base_is why (omega (arith, less, h.kept_is)) (omega (arith, less, h.kept_is, h.asked_is, sized)) (omega (arith, h.few)) refl _ refl

-- the first answer
begin-course : (layout : Layout) (answers : List WriterAnswer) (stamp base : ℕ) → answers ≡ [] →
    IsCourse layout (told.Begun stamp base ∷ answers) (Sending (none_sent stamp base))
begin-course layout [] stamp base e = record {
  stamp_is = refl;
  base_is = refl;
  why_is = refl;
  kept_is = refl;
  asked_is = refl;
  few = omega arith;
  spare = omega (arith, forward-less layout);
  going = refl;
}
begin-course layout (x ∷ xs) stamp base e = cc

deny-course : (layout : Layout) (answers : List WriterAnswer) (denial : _) → answers ≡ [] →
    IsCourse layout (told.Denied denial ∷ answers) (Ended (end.Denied denial))
deny-course layout [] denial e = (refl, omega (arith, forward-less layout))
deny-course layout (x ∷ xs) denial e = cc

-- an answer to a keep
keep-course : (layout : Layout) (answers : List WriterAnswer) (t : SentRecords) (answer : WriterAnswer) → IsSending layout answers t → t.kept < forward_of layout →
    IsKeepAnswer answer → IsCourse layout (answer ∷ answers) (after_answer layout (Sending t) answer)
keep-course layout answers t (told.Kept a) h more asked =
    after-keep layout answers (told.Kept a ∷ answers) (why_of a) t h more refl refl refl refl _ refl
keep-course layout answers t told.Missed h more asked =
    after-keep layout answers (told.Missed ∷ answers) Missed t h more refl refl refl refl _ refl
keep-course layout answers t (told.Begun stamp base) h more asked = absurd asked
keep-course layout answers t (told.Denied denial) h more asked = absurd asked
keep-course layout answers t told.Accepted h more asked = absurd asked
keep-course layout answers t (told.Enrolled position fence) h more asked = absurd asked
keep-course layout answers t (told.Revoked later) h more asked = absurd asked

-- an answer to a publish
publish-course : (layout : Layout) (answers : List WriterAnswer) (t : SentRecords) (answer : WriterAnswer) → IsSending layout answers t →
    IsPublishAnswer (mask_of t.why) answer → IsCourse layout (answer ∷ answers) (after_answer layout (Sending t) answer)
publish-course layout answers t told.Accepted h asked =
    let ws = outcomes answers in
    ((refl, h.stamp_is, ap mask_of h.why_is ∙ mask_of-append ws (16 - length ws)), omega (arith, h.spare, h.kept_is, h.asked_is))
publish-course layout answers t (told.Enrolled position fence) h asked = after-enrolled-course layout answers t position fence h asked.1
publish-course layout answers t (told.Denied denial) h asked = (refl, omega (arith, h.spare, h.kept_is, h.asked_is))
publish-course layout answers t (told.Revoked later) h asked = (refl, omega (arith, h.spare, h.kept_is, h.asked_is))
publish-course layout answers t (told.Begun stamp base) h asked = absurd asked
publish-course layout answers t (told.Kept a) h asked = absurd asked
publish-course layout answers t told.Missed h asked = absurd asked

sending-course : (layout : Layout) (answers : List WriterAnswer) (t : SentRecords) (answer : WriterAnswer) (position node : ℕ) → IsSending layout answers t → (b : Bool) →
    nat_lt t.kept (forward_of layout) ≡ b →
    IsWriterAnswer (cond b (ask.Keep position node t.stamp t.base) (ask.Publish t.stamp (mask_of t.why))) answer →
    IsCourse layout (answer ∷ answers) (after_answer layout (Sending t) answer)
sending-course layout answers t answer position node h true test asked =
    keep-course layout answers t answer h (search (rules, nat_tests)) asked
sending-course layout answers t answer position node h false test asked = publish-course layout answers t answer h asked

begun-course : (layout : Layout) (answers : List WriterAnswer) (answer : WriterAnswer) (size : ℕ) → answers ≡ [] → IsWriterAnswer (ask.Begin size) answer →
    IsCourse layout (answer ∷ answers) (after_answer layout Beginning answer)
begun-course layout answers (told.Begun stamp base) size e asked = begin-course layout answers stamp base e
begun-course layout answers (told.Denied denial) size e asked = deny-course layout answers denial e
begun-course layout answers (told.Kept a) size e asked = absurd asked
begun-course layout answers told.Missed size e asked = absurd asked
begun-course layout answers told.Accepted size e asked = absurd asked
begun-course layout answers (told.Enrolled position fence) size e asked = absurd asked
begun-course layout answers (told.Revoked later) size e asked = absurd asked

-- one more answer
step : (layout : Layout) (key : Key) (places : List ℕ) (size : ℕ) (answers : List WriterAnswer) (answer : WriterAnswer) (stage : WriteStage) →
    IsCourse layout answers stage → IsWriterAnswer (ask_at (state_at layout key places size stage) stage) answer →
    IsCourse layout (answer ∷ answers) (after_answer layout stage answer)
step layout key places size answers answer Beginning h asked = begun-course layout answers answer size h asked
step layout key places size answers answer (Sending t) h asked =
    sending-course layout answers t answer (t.kept + t.failed) (slice_index places (t.kept + t.failed)) h (nat_lt t.kept (forward_of layout)) refl asked
step layout key places size answers answer (Ended e) h asked = absurd asked

-- all answers
pub course : (layout : Layout) (key : Key) (places : List ℕ) (size : ℕ) (answers : List WriterAnswer) →
    AreAnswers (writer_start layout key places size) answers → IsCourse layout answers (stage_after layout answers)
course layout key places size [] h = refl
course layout key places size (answer ∷ earlier) h =
    let state = state_at layout key places size (stage_after layout earlier) in
    let asked : IsWriterAnswer (writer_ask state) answer =
    subst (λ (s : WriterState). IsWriterAnswer (writer_ask s) answer) (after-is layout key places size earlier) h.1 in
    step layout key places size earlier answer (stage_after layout earlier) (course layout key places size earlier h.0) asked

-- What is asked.

asks-sending : (layout : Layout) (places : List ℕ) (size : ℕ) (answers : List WriterAnswer) (t : SentRecords) → IsSending layout answers t → (b : Bool) →
    nat_lt t.kept (forward_of layout) ≡ b →
    IsAskAfter layout places size answers (cond b (ask.Keep (t.kept + t.failed) (slice_index places (t.kept + t.failed)) t.stamp t.base) (ask.Publish t.stamp (mask_of t.why)))
asks-sending layout places size answers t h true test = record { ascending = h.asked_is; of_place = refl; begun = h.stamp_is; based = h.base_is }
asks-sending layout places size answers t h false test =
    let ws = outcomes answers in
    let all : forward_of layout ≤ t.kept = search (rules, nat_tests) in
    let same : mask_of t.why ≡ mask_of ws = ap mask_of h.why_is ∙ mask_of-append ws (16 - length ws) in
    record {
      begun = h.stamp_is;
      names = λ position.
          subst (λ (n : ℕ). (n ≡ 1) ↔ IsTrue (is_kept (get_or ws position NotAsked)))
          (sym (ap (λ m. bit_at m position) same ∙ bit_at-mask_of ws position)) (one-true (is_kept (get_or ws position NotAsked)));
      enough = omega (arith, all, h.few, h.kept_is);
    }

asks-at : (layout : Layout) (key : Key) (places : List ℕ) (size : ℕ) (answers : List WriterAnswer) (stage : WriteStage) → IsCourse layout answers stage →
    IsAskAfter layout places size answers (ask_at (state_at layout key places size stage) stage)
asks-at layout key places size answers Beginning h = (h, refl)
asks-at layout key places size answers (Sending t) h = asks-sending layout places size answers t h (nat_lt t.kept (forward_of layout)) refl
asks-at layout key places size answers (Ended e) h = (e, h.0)

pub asks-in-order : AsksInOrder
asks-in-order layout key places size answers h =
    subst (λ (s : WriterState). IsAskAfter layout places size answers (writer_ask s)) (sym (after-is layout key places size answers))
    (asks-at layout key places size answers (stage_after layout answers) (course layout key places size answers h))
