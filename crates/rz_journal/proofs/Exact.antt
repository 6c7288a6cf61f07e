-- A text that stands for calls has no fault that it is refused for.
use Rattle.std.proofs.Common.{◌≡◌, ◌≢◌, ◌⊎◌, inl, inr, ◌%◌, ◌<◌, ◌≤◌, ◌+◌, ℕ, Bool, IsTrue, List, [], ◌∷◌, ◌++◌, length, map, get_or, Option, Some, None, refl, sym, ◌∙◌, ap, subst, arith}
use Rattle.std.proofs.lemmas.List.{append-nil}
use Rattle.rz_disk.specs.Images.{window}
use Rattle.rz_events.specs.Volume.{Volume}
use Rattle.rz_events.specs.declared.export.Call.{Call}
use Rattle.rz_export_model.specs.Export.{Export, new_export, export_after}
use Rattle.rz_tree.specs.declared.parts.Part.{Part}
use Rattle.rz_export.specs.Building.{MayFollow, AllFollow}
use Rattle.rz_journal_text.specs.declared.entry.JournalEntry.{JournalEntry as Said}
use Rattle.rz_journal_text.specs.declared.entry.JournalEntry.TheVariants as entry
use Rattle.rz_journal_text.specs.Spelling.{Spells}
use Rattle.rz_journal_text.proofs.EntryLaws.{one_entry}
use Rattle.rz_journal.specs.Row.{Entries, taken, IsEntryAt, Row, EndsAt}
use Rattle.rz_journal.specs.Stands.{half_bytes, half_at}
use Rattle.rz_journal.specs.Said.{call_said}
use Rattle.rz_journal.specs.JournalText.{IsAccepted, AreAccepted, after_all, BeginsWith, AreSpelled, Makes, Keeps, IsTextOf}
use Rattle.rz_journal.specs.Listed.{length_at}
use Rattle.rz_journal.specs.declared.rebuilding.JournalFault.{JournalFault}
use Rattle.rz_journal.specs.declared.rebuilding.JournalFault.TheVariants.{NoMemory, WrongSize, DiskFault, Unformatted, BadHeader, Damaged}
use Rattle.rz_journal.specs.Opening.{AreNoneOrAll, EndWell, MayFollowEntries, IsWrong, HasDamagedAt, IsJournalRefused}
use Rattle.rz_journal.proofs.Changes.{size_is}
use Rattle.rz_journal.proofs.Opened.{half_size_is}
use Rattle.rz_journal.proofs.Halves.{half-length, ends_back}
use Rattle.rz_journal.proofs.Openings.{map_one, call_goes}
use Rattle.rz_journal.proofs.Reopened.{small_there, makes_made}

-- ---- what makes an export goes, and ends well

-- entries among which stands a call are no parts
some_call : (before : List Said) (e : Said) (c : Call) (more : List Said) (ps : List Part) → call_said e ≡ Some c → before ++ e ∷ more ≢ map entry.Built ps
some_call [] e c more [] said same = absurd (cc)
some_call (x ∷ before) e c more [] said same = absurd (cc)
some_call [] e c more (p ∷ ps) said same =
    let is : e ≡ entry.Built p = cc in
    let gone : None ≡ Some c = sym (ap call_said is) ∙ said in absurd (cc)
some_call (x ∷ before) e c more (p ∷ ps) said same =
    let tail : before ++ e ∷ more ≡ map entry.Built ps = cc in some_call before e c more ps said tail

none_or_all : (volume : Volume) (parts : List Part) (first : Export) → BeginsWith volume parts first → AreNoneOrAll volume parts
none_or_all volume [] first begins = tt
none_or_all volume (p ∷ ps) first begins = begins.0

well_by : (volume : Volume) (before : List Said) (parts : List Part) (first : Export) (later : List Said) (calls : List Call) → BeginsWith volume parts first
    → before ≡ map entry.Built parts ++ later → map call_said later ≡ map Some calls → EndWell volume before
well_by volume before parts first [] calls begins are said ps same =
    subst (AreNoneOrAll volume) (map_one parts ps (sym (append-nil (map entry.Built parts)) ∙ sym are ∙ same)) (none_or_all volume parts first begins)
well_by volume before parts first (e ∷ later) [] begins are said ps same = absurd (cc)
well_by volume before parts first (e ∷ later) (c ∷ calls) begins are said ps same =
    let head : call_said e ≡ Some c = cc in absurd (some_call (map entry.Built parts) e c later ps head (sym are ∙ same))

makes_well : (volume : Volume) (before : List Said) (s : Export) → Makes volume before s → EndWell volume before
makes_well volume before s m = well_by volume before m.parts m.first m.later m.calls m.begins m.are m.said

-- an entry among others: it stands among the parts, or behind them
abbrev IsAmong : List Said → Said → List Said → List Part → List Said → Type 0
IsAmong before e more parts later =
    ((ps : List Part) × (p : Part) × (qs : List Part) × (before ≡ map entry.Built ps) × (e ≡ entry.Built p) × (parts ≡ ps ++ p ∷ qs))
    ⊎ ((xs : List Said) × (before ≡ map entry.Built parts ++ xs) × (later ≡ xs ++ e ∷ more))

among : (before : List Said) (e : Said) (more : List Said) (parts : List Part) (later : List Said) → before ++ e ∷ more ≡ map entry.Built parts ++ later → IsAmong before e more parts later
among before e more [] later same = inr (before, refl, sym same)
among [] e more (p ∷ parts) later same = let head : e ≡ entry.Built p = cc in inl ([], p, parts, refl, head, refl)
among (x ∷ before) e more (p ∷ parts) later same =
    let head : x ≡ entry.Built p = cc in
    let tail : before ++ e ∷ more ≡ map entry.Built parts ++ later = cc in
    step head (among before e more parts later tail)
  where
    step : x ≡ entry.Built p → IsAmong before e more parts later → IsAmong (x ∷ before) e more (p ∷ parts) later
    step head (inl (ps, q, qs, front, is, all)) =
        inl (p ∷ ps, q, qs, ap (λ (y : Said). y ∷ before) head ∙ ap (λ (l : List Said). entry.Built p ∷ l) front, is, ap (λ (l : List Part). p ∷ l) all)
    step head (inr (xs, front, rest)) = inr (xs, ap (λ (y : Said). y ∷ before) head ∙ ap (λ (l : List Said). entry.Built p ∷ l) front, rest)

follow_at : (volume : Volume) (before ps : List Part) (p : Part) (qs : List Part) → AllFollow volume before (ps ++ p ∷ qs) → MayFollow volume (before ++ ps) p
follow_at volume before [] p qs all = subst (λ (l : List Part). MayFollow volume l p) (sym (append-nil before)) all.0
follow_at volume before (x ∷ ps) p qs all =
    subst (λ (l : List Part). MayFollow volume l p) (more before) (follow_at volume (before ++ x ∷ []) ps p qs all.1)
  where
    more : (before : List Part) → (before ++ x ∷ []) ++ ps ≡ before ++ x ∷ ps
    more [] = refl
    more (y ∷ before) = ap (λ (l : List Part). y ∷ l) (more before)

begins_each : (volume : Volume) (parts : List Part) (first : Export) → BeginsWith volume parts first → AllFollow volume [] parts
begins_each volume [] first begins = tt
begins_each volume (p ∷ ps) first begins = begins.0.each

-- the calls up to one of them
record AreCallsTo (s : Export) (xs : List Said) (e : Said) : Type 0 where
  calls : List Call
  call : Call
  are : map call_said xs ≡ map Some calls
  said : call_said e ≡ Some call
  accepted : AreAccepted s calls
  own : IsAccepted (after_all s calls) call

calls_to : (s : Export) (xs : List Said) (e : Said) (more : List Said) (calls : List Call) → map call_said (xs ++ e ∷ more) ≡ map Some calls → AreAccepted s calls → AreCallsTo s xs e
calls_to s [] e more [] said all = absurd (cc)
calls_to s [] e more (c ∷ calls) said all =
    let head : call_said e ≡ Some c = cc in
    record { calls = []; call = c; are = refl; said = head; accepted = tt; own = all.0 }
calls_to s (x ∷ xs) e more [] said all = absurd (cc)
calls_to s (x ∷ xs) e more (c ∷ calls) said all =
    let head : call_said x ≡ Some c = cc in
    let tail : map call_said (xs ++ e ∷ more) ≡ map Some calls = cc in
    let rest = calls_to (export_after s c) xs e more calls tail all.1 in
    record {
      calls = c ∷ rest.calls;
      call = rest.call;
      are = ap (λ (o : Option Call). o ∷ map call_said xs) head ∙ ap (λ (os : List (Option Call)). Some c ∷ os) rest.are;
      said = rest.said;
      accepted = (all.0, rest.accepted);
      own = rest.own;
    }

-- an entry that makes an export with those before it and behind it may stand there
makes_goes : (volume : Volume) (before : List Said) (e : Said) (more : List Said) (s : Export) → Makes volume (before ++ e ∷ more) s → MayFollowEntries volume before e
makes_goes volume before e more s m = go (among before e more m.parts m.later m.are)
  where
    go : IsAmong before e more m.parts m.later → MayFollowEntries volume before e
    go (inl (ps, p, qs, front, is, all)) =
        subst (MayFollowEntries volume before) (sym is)
        (ps, front, follow_at volume [] ps p qs (subst (AllFollow volume []) all (begins_each volume m.parts m.first m.begins)))
    go (inr (xs, front, rest)) =
        let to = calls_to m.first xs e more m.calls (subst (λ (l : List Said). map call_said l ≡ map Some m.calls) rest m.said) m.accepted in
        let there : Makes volume before (after_all m.first to.calls) = record {
          parts = m.parts;
          first = m.first;
          begins = m.begins;
          later = xs;
          calls = to.calls;
          are = front;
          said = to.are;
          accepted = to.accepted;
          made = refl;
        } in
        call_goes volume before e to.call to.said
        (makes_well volume before (after_all m.first to.calls) there, subst (λ (x : Export). IsAccepted x to.call) (makes_made volume before (after_all m.first to.calls) there) to.own)

-- ---- the entries so far are the first of all

-- the entries behind some others
record AreBehind (text : List ℕ) (at : ℕ) (before entries : List Said) (end : ℕ) : Type 0 where
  rest : Entries
  more : List Said
  all : entries ≡ before ++ more
  spelled : AreSpelled rest more
  ends : EndsAt at rest text
  place : at + taken rest ≡ end

behind : (text : List ℕ) (at : ℕ) (some bytes : Entries) (before entries : List Said) → Row at some text → AreSpelled some before → EndsAt at bytes text → AreSpelled bytes entries
    → AreBehind text (at + taken some) before entries (at + taken bytes)
behind text at [] bytes [] entries row spelled ends all =
    let here : at + 0 ≡ at = omega arith in
    record { rest = bytes; more = entries; all = refl; spelled = all; ends = subst (λ (k : ℕ). EndsAt k bytes text) (sym here) ends; place = omega arith }
behind text at [] bytes (e ∷ before) entries row spelled ends all = absurd spelled
behind text at (b ∷ some) bytes [] entries row spelled ends all = absurd spelled
behind text at (b ∷ some) [] (e ∷ before) entries row spelled ends all =
    let here : at + 0 ≡ at = omega arith in
    absurd (omega (arith, ap (λ (k : ℕ). get_or text k 0 % 2) here, ends.shut, row.0.gate))
behind text at (b ∷ some) (c ∷ bytes) (e ∷ before) [] row spelled ends all = absurd all
behind text at (b ∷ some) (c ∷ bytes) (e ∷ before) (d ∷ entries) row spelled ends all =
    let long : length b ≡ length c = sym row.0.count ∙ ends.row.0.count in
    let same : b ≡ c = sym row.0.bytes ∙ ap (λ (k : ℕ). window (at + 5) k text) long ∙ ends.row.0.bytes in
    let place-c : at + ((5 + length c) + taken bytes) ≡ (at + (5 + length b)) + taken bytes = omega (arith, long) in
    let later : EndsAt (at + (5 + length b)) bytes text =
    record { row = subst (λ (k : ℕ). Row (at + (5 + k)) bytes text) (sym long) ends.row.1; shut = subst (λ (k : ℕ). get_or text k 0 % 2 ≡ 0) place-c ends.shut } in
    let next = behind text (at + (5 + length b)) some bytes before entries row.1 spelled.1 later all.1 in
    let first : d ≡ e = one_entry c d e all.0 (subst (λ (x : List ℕ). Spells x e) same spelled.0) in
    let place-b : (at + (5 + length b)) + taken some ≡ at + ((5 + length b) + taken some) = omega arith in
    let place = next.place in
    record {
      rest = next.rest;
      more = next.more;
      all = ap (λ (x : Said). x ∷ entries) first ∙ ap (λ (l : List Said). e ∷ l) next.all;
      spelled = next.spelled;
      ends = subst (λ (k : ℕ). EndsAt k next.rest text) place-b next.ends;
      place = omega (arith, long, place);
    }

-- ---- nothing is wrong behind them

module _ (volume : Volume) (half : List ℕ) (before : List Said) (used : ℕ) (s : Export) where
  -- at the end
  at_end : get_or half used 0 % 2 ≡ 0 → Makes volume before s → IsWrong volume half before used → ⊥
  at_end shut makes (inl damaged) = let gate = damaged.open_gate in omega (arith, shut, gate)
  at_end shut makes (inr (inl (d, next, step, never))) = let gate = step.1.gate in omega (arith, shut, gate)
  at_end shut makes (inr (inr (end, bad))) = bad (makes_well volume before s makes)

  -- in front of an entry
  at_entry : (b : List ℕ) (e : Said) (more : List Said) → IsEntryAt used b half → Spells b e → used + (5 + length b) < length half → Makes volume (before ++ e ∷ more) s → IsWrong volume half before used → ⊥
  at_entry b e more there spelled inside makes (inl damaged) = go damaged.wrong
    where
      count : length_at half used ≡ length b
      count = there.count

      go : (length half ≤ used + (5 + length_at half used)) ⊎ ((d : Said) → ¬ Spells (window (used + 5) (length_at half used) half) d) → ⊥
      go (inl past) = let is = count in omega (arith, past, is, inside)
      go (inr none) =
          none e (subst (λ (l : List ℕ). Spells l e) (sym (ap (λ (n : ℕ). window (used + 5) n half) count ∙ there.bytes)) spelled)
  at_entry b e more there spelled inside makes (inr (inl (d, next, step, never))) =
      let long : length step.0 ≡ length b = sym step.1.count ∙ there.count in
      let same : step.0 ≡ b = sym step.1.bytes ∙ ap (λ (n : ℕ). window (used + 5) n half) long ∙ there.bytes in
      let is : e ≡ d = one_entry b e d spelled (subst (λ (l : List ℕ). Spells l d) same step.2) in
      never (subst (MayFollowEntries volume before) is (makes_goes volume before e more s makes))
  at_entry b e more there spelled inside makes (inr (inr (end, bad))) = let gate = there.gate in omega (arith, end, gate)

not_wrong : (volume : Volume) (half : List ℕ) (before : List Said) (used : ℕ) (s : Export) (rest : Entries) (more : List Said) → EndsAt used rest half → AreSpelled rest more → used + taken rest < length half
    → Makes volume (before ++ more) s → IsWrong volume half before used → ⊥
not_wrong volume half before used s [] [] ends spelled inside makes =
    let here : used + 0 ≡ used = omega arith in
    at_end volume half before used s (subst (λ (k : ℕ). get_or half k 0 % 2 ≡ 0) here ends.shut) (subst (λ (l : List Said). Makes volume l s) (append-nil before) makes)
not_wrong volume half before used s [] (e ∷ more) ends spelled inside makes = absurd spelled
not_wrong volume half before used s (b ∷ rest) [] ends spelled inside makes = absurd spelled
not_wrong volume half before used s (b ∷ rest) (e ∷ more) ends spelled inside makes =
    at_entry volume half before used s b e more ends.row.0 spelled.0 (omega (arith, inside)) makes

-- ---- the whole text

undamaged : (volume : Volume) (text : List ℕ) (number : ℕ) (s : Export) → Keeps volume text s → HasDamagedAt volume text number → ⊥
undamaged volume text number s keeps (half, journal, damaged) =
    let there = window (half_at half) half_bytes text in
    let small = small_there half text journal in
    let size = journal.size in
    let fits : half_at half + half_bytes ≤ length text = omega (arith, size, small, size_is, half_size_is) in
    let held = keeps.stands.1 in
    let same : keeps.stands.0 ≡ half = sym held.journal.picked ∙ journal.picked in
    let room = held.room in
    let long : length there ≡ half_bytes = half-length (half_at half) half_bytes there text refl fits in
    let ends = ends_back (half_at half) half_bytes there text refl fits keeps.bytes (omega (arith, room, half_size_is)) (subst (λ (h : ℕ). EndsAt (half_at h) keeps.bytes text) same held.ends) in
    let so = damaged.so_far in
    let is = behind there 0 so.0 keeps.bytes damaged.before keeps.entries so.1 so.2 ends keeps.spelled in
    let count = so.3 in
    let at : 0 + taken so.0 ≡ damaged.used = omega (arith, count) in
    let end = is.place in
    not_wrong volume there damaged.before damaged.used s is.rest is.more (subst (λ (k : ℕ). EndsAt k is.rest there) at is.ends) is.spelled
    (omega (arith, at, end, room, long, half_size_is))
    (subst (λ (l : List Said). Makes volume l s) is.all keeps.makes) damaged.wrong

-- a text that stands for calls is refused by want of memory or a failed device call alone
pub exact : (tells : Bool) (volume : Volume) (text : List ℕ) (fault : JournalFault) → IsJournalRefused tells volume text fault → IsTrue tells → (calls : List Call) → IsTextOf volume text calls
    → (fault ≡ NoMemory) ⊎ (fault ≡ DiskFault)
exact tells volume text NoMemory why told calls is = inl refl
exact tells volume text (WrongSize have need) why told calls is = absurd (why.2 is.keeps.stands.1.journal.size)
exact tells volume text DiskFault why told calls is = inr refl
exact tells volume text Unformatted why told calls is =
    let shut = why.1 told in
    let open_it = is.keeps.stands.1.journal.formatted in absurd (omega (arith, shut, open_it))
exact tells volume text BadHeader why told calls is = absurd ((why.1 told).1 is.keeps.stands.1.journal.header)
exact tells volume text (Damaged number) why told calls is =
    absurd (undamaged volume text number (after_all (new_export volume 0) calls) is.keeps (why.1 told))
