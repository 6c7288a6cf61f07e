-- Entries one after another, and the export that they make.
use Rattle.std.proofs.Common.{◌≡◌, ◌≢◌, ◌↔◌, ℕ, ◌+◌, ◌<◌, ◌≤◌, inl, inr, ⊎_elim, Bool, true, false, IsTrue, List, [], ◌∷◌, ◌++◌, length, map, replicate, Some, None, Result, Ok, Err, IfOk, refl, sym, ◌∙◌, ap, subst, arith, append_assoc}
use Rattle.std.proofs.lemmas.Bool.{leb-true}
use Rattle.std.proofs.lemmas.List.{append-nil, length-replicate}
use Rattle.mj_angles.specs.Layout.{block_bytes_of}
use Rattle.rz_events.specs.Volume.{Volume}
use Rattle.rz_events.specs.declared.keys.Key.{Key}
use Rattle.rz_events.specs.declared.export.Call.{Call}
use Rattle.rz_events.specs.declared.export.Call.TheVariants as call
use Rattle.rz_events.specs.declared.export.Reply.{Reply}
use Rattle.rz_events.specs.declared.export.Reply.TheVariants.{NoMemory}
use Rattle.rz_export_model.specs.Export.{Export, new_export, export_reply, export_after}
use Rattle.rz_tree.specs.declared.parts.Part.{Part}
use Rattle.rz_tree.specs.declared.parts.Part.TheVariants as part
use Rattle.rz_tree.specs.Added.{IsRootPart, AreNamed}
use Rattle.rz_export.specs.Calls.{IsAnswered, MayWant}
use Rattle.rz_export.specs.Building.{with_part, with_parts, made_of, IsCounters, MayBeNext, MayFollow, AllFollow, MayAdd, AllAdd}
use Rattle.rz_export.proofs.Joined.{made-more, all-add}
use Rattle.rz_journal_text.specs.declared.entry.JournalEntry.{JournalEntry as Said}
use Rattle.rz_journal_text.specs.declared.entry.JournalEntry.TheVariants as entry
use Rattle.rz_journal.specs.declared.reading.EntryFound.{EntryFound}
use Rattle.rz_journal.specs.declared.reading.EntryFound.TheVariants.{End, Entry, Damaged}
use Rattle.rz_journal.specs.declared.rebuilding.ReopenProgress.{ReopenProgress}
use Rattle.rz_journal.specs.declared.rebuilding.ReopenProgress.TheVariants.{Empty, Counters, Parts, Calls}
use Rattle.rz_journal.specs.Said.{call_said, accepts}
use Rattle.rz_journal.specs.JournalText.{IsAccepted, BeginsWith, Makes}
use Rattle.rz_journal.specs.Listed.{IsEntryFound, SoFar}
use Rattle.rz_journal.specs.Opening.{said_by, said_by_all, made_by, AreNoneOrAll, EndWell, PartGoes, CallGoes, MayFollowEntries, AllGo, HasPartsSoFar, ArePartsSoFar, IsProgress, after_part, IsSomeStage, TellsEnd, TellsPart, IsAdded, MakeExport, IsWrong, IsDamagedAt}
use Rattle.rz_journal.proofs.Listings.{none_so_far, one_more, next_is}
use Rattle.rz_journal.proofs.Makings.{after_more, accepted_more, said_more}

-- ---- entries that are parts

-- other entries say other parts
pub map_one : (ps qs : List Part) → map entry.Built ps ≡ map entry.Built qs → ps ≡ qs
map_one [] [] same = refl
map_one [] (q ∷ qs) same = absurd (cc)
map_one (p ∷ ps) [] same = absurd (cc)
map_one (p ∷ ps) (q ∷ qs) same =
    let head : p ≡ q = cc in
    let tail : map entry.Built ps ≡ map entry.Built qs = cc in
    ap (λ (l : List Part). p ∷ l) (map_one ps qs tail) ∙ ap (λ (x : Part). x ∷ qs) head

map_more : (ps : List Part) (p : Part) → map entry.Built (ps ++ p ∷ []) ≡ map entry.Built ps ++ entry.Built p ∷ []
map_more [] p = refl
map_more (q ∷ ps) p = ap (λ (l : List Said). entry.Built q ∷ l) (map_more ps p)

length_more : (ps : List Part) (p : Part) → length (ps ++ p ∷ []) ≡ length ps + 1
length_more [] p = refl
length_more (q ∷ ps) p = let rest = length_more ps p in omega (arith, rest)

-- a call is no part
not_parts : (before : List Said) (e : Said) (c : Call) (ps : List Part) → call_said e ≡ Some c → before ++ e ∷ [] ≢ map entry.Built ps
not_parts [] e c [] said same = absurd (cc)
not_parts (x ∷ before) e c [] said same = absurd (cc)
not_parts [] e c (p ∷ ps) said same =
    let is : e ≡ entry.Built p = cc in
    let gone : None ≡ Some c = sym (ap call_said is) ∙ said in absurd (cc)
not_parts (x ∷ before) e c (p ∷ ps) said same = let tail : before ++ e ∷ [] ≡ map entry.Built ps = cc in not_parts before e c ps said tail

follow_more : (volume : Volume) (before ps : List Part) (p : Part) → AllFollow volume before ps → MayFollow volume (before ++ ps) p → AllFollow volume before (ps ++ p ∷ [])
follow_more volume before [] p all may = (subst (λ (l : List Part). MayFollow volume l p) (append-nil before) may, tt)
follow_more volume before (q ∷ ps) p all may =
    (all.0, follow_more volume (before ++ q ∷ []) ps p all.1 (subst (λ (l : List Part). MayFollow volume l p) (sym (append_assoc before (q ∷ []) ps)) may))

add_last : (s : Export) (ps : List Part) (p : Part) → AllAdd s (ps ++ p ∷ []) → MayAdd (with_parts s ps) p
add_last s [] p all = all.0
add_last s (q ∷ ps) p all = add_last (with_part s q) ps p all.1

pub part_volume : (s : Export) (p : Part) → (with_part s p).volume ≡ s.volume
part_volume s (part.Counters last made) = refl
part_volume s (part.Object fid kind mode mtime size cid places target) = refl
part_volume s (part.Name path fid) = refl
part_volume s (part.Block key latest published) = refl
part_volume s (part.Enrolled node loss fence) = refl

-- ---- the export that entries make

said_last : (s : Export) (es : List Said) (e : Said) → said_by_all s (es ++ e ∷ []) ≡ said_by (said_by_all s es) e
said_last s [] e = refl
said_last s (x ∷ es) e = said_last (said_by s x) es e

pub said_parts : (s : Export) (ps : List Part) → said_by_all s (map entry.Built ps) ≡ with_parts s ps
said_parts s [] = refl
said_parts s (p ∷ ps) = said_parts (with_part s p) ps

pub said_call : (s : Export) (e : Said) (c : Call) → call_said e ≡ Some c → said_by s e ≡ export_after s c
said_call s (entry.Tree t) c said = let same : call.Tree t ≡ c = cc in ap (export_after s) same
said_call s (entry.Begin key bytes) c said = let same : call.Begin key (replicate bytes 0) ≡ c = cc in ap (export_after s) same
said_call s (entry.Publish key stamp mask bytes) c said = let same : call.Publish key stamp mask bytes ≡ c = cc in ap (export_after s) same
said_call s (entry.Enroll node loss) c said = let same : call.Enroll node loss ≡ c = cc in ap (export_after s) same
said_call s (entry.Built p) c said = absurd (cc)

makes_said : (volume : Volume) (entries : List Said) (s : Export) (c : Call) (e : Said) → Makes volume entries s → IsAccepted s c → call_said e ≡ Some c → Makes volume (entries ++ e ∷ []) (export_after s c)
makes_said volume entries s c e makes is said = record {
  parts = makes.parts;
  first = makes.first;
  begins = makes.begins;
  later = makes.later ++ e ∷ [];
  calls = makes.calls ++ c ∷ [];
  are = ap (λ (es : List Said). es ++ e ∷ []) makes.are ∙ append_assoc (map entry.Built makes.parts) makes.later (e ∷ []);
  said = said_more makes.later makes.calls e c makes.said said;
  accepted = accepted_more makes.first makes.calls c makes.accepted (subst (λ (u : Export). IsAccepted u c) makes.made is);
  made = ap (λ (u : Export). export_after u c) makes.made ∙ sym (after_more makes.first makes.calls c);
}

begins_with : (volume : Volume) (parts : List Part) (s : Export) → s ≡ made_of volume parts → AreNoneOrAll volume parts → BeginsWith volume parts s
begins_with volume [] s made none = made
begins_with volume (p ∷ ps) s made are = (are, made)

ended_makes : (volume : Volume) (before : List Said) (stage : ReopenProgress) (s : Export) → ArePartsSoFar volume before stage s → EndWell volume before → Makes volume before s
ended_makes volume before stage s so well = record {
  parts = so.parts;
  first = s;
  begins = begins_with volume so.parts s so.made (well so.parts so.are);
  later = [];
  calls = [];
  are = so.are ∙ sym (append-nil (map entry.Built so.parts));
  said = refl;
  accepted = tt;
  made = refl;
}

pub stage_makes : (volume : Volume) (before : List Said) (stage : ReopenProgress) (s : Export) → IsProgress volume before stage s → EndWell volume before → Makes volume before s
stage_makes volume before Empty s so well = ended_makes volume before Empty s so well
stage_makes volume before Counters s so well = ended_makes volume before Counters s so well
stage_makes volume before Parts s so well = ended_makes volume before Parts s so well
stage_makes volume before Calls s so well = so.makes

parts_made : (volume : Volume) (before : List Said) (stage : ReopenProgress) (s : Export) → ArePartsSoFar volume before stage s → s ≡ made_by volume before
parts_made volume before stage s so = so.made ∙ sym (said_parts (new_export volume 0) so.parts) ∙ ap (made_by volume) (sym so.are)

pub stage_made : (volume : Volume) (before : List Said) (stage : ReopenProgress) (s : Export) → IsProgress volume before stage s → s ≡ made_by volume before
stage_made volume before Empty s so = parts_made volume before Empty s so
stage_made volume before Counters s so = parts_made volume before Counters s so
stage_made volume before Parts s so = parts_made volume before Parts s so
stage_made volume before Calls s so = so.made

-- nothing stands so far
pub none_stand : (volume : Volume) (s : Export) → s ≡ new_export volume 0 → IsProgress volume [] Empty s
none_stand volume s made = record { parts = []; are = refl; each = tt; made = made; at = refl }

-- ---- whether the parts so far end well

end_is : (volume : Volume) (before : List Said) (stage : ReopenProgress) (s : Export) (so : ArePartsSoFar volume before stage s) → AreNoneOrAll volume so.parts → EndWell volume before
end_is volume before stage s so all ps same = subst (AreNoneOrAll volume) (map_one so.parts ps (sym so.are ∙ same)) all

none_end : (volume : Volume) (parts : List Part) → length parts ≡ 0 → AreNoneOrAll volume parts
none_end volume [] none = tt
none_end volume (p ∷ ps) none = absurd (omega (arith, none))

one_ends : (volume : Volume) (parts : List Part) → length parts ≡ 1 → ¬ AreNoneOrAll volume parts
one_ends volume [] one all = absurd (omega (arith, one))
one_ends volume (p ∷ ps) one all = let two = all.rooted in absurd (omega (arith, one, two))

more_end : (volume : Volume) (parts : List Part) → 2 ≤ length parts → AllFollow volume [] parts → AreNamed (made_of volume parts).tree → AreNoneOrAll volume parts
more_end volume [] two each named = tt
more_end volume (p ∷ ps) two each named = record { each = each; rooted = two; named = named }

more_named : (volume : Volume) (parts : List Part) → 2 ≤ length parts → AreNoneOrAll volume parts → AreNamed (made_of volume parts).tree
more_named volume [] two all = absurd (omega (arith, two))
more_named volume (p ∷ ps) two all = all.named

pub empty_ends : (s : Export) → TellsEnd Empty s true
empty_ends s volume before so = ((λ yes. end_is volume before Empty s so (none_end volume so.parts so.at)), (λ well. refl))

pub calls_end : (s : Export) → TellsEnd Calls s true
calls_end s volume before so = ((λ yes ps same. absurd (so.past ps same)), (λ well. refl))

pub counters_end : (s : Export) → TellsEnd Counters s false
counters_end s volume before so = ((λ no. absurd (let wrong : false ≡ true = no in cc)), (λ well. absurd (one_ends volume so.parts so.at (well so.parts so.are))))

pub parts_end : (s : Export) (b : Bool) → IsTrue b ↔ AreNamed s.tree → TellsEnd Parts s b
parts_end s b means volume before so = (
  (λ yes. end_is volume before Parts s so (more_end volume so.parts so.at so.each (subst (λ (x : Export). AreNamed x.tree) so.made (means.0 yes)))),
  (λ well. means.1 (subst (λ (x : Export). AreNamed x.tree) (sym so.made) (more_named volume so.parts so.at (well so.parts so.are)))),
)

-- ---- whether a part may stand behind the entries so far

goes_is : (volume : Volume) (before : List Said) (stage : ReopenProgress) (s : Export) (p : Part) (so : ArePartsSoFar volume before stage s) → PartGoes volume before p → MayFollow volume so.parts p
goes_is volume before stage s p so goes = subst (λ (l : List Part). MayFollow volume l p) (map_one goes.0 so.parts (sym goes.1 ∙ so.are)) goes.2

first_follows : (volume : Volume) (parts : List Part) (p : Part) → length parts ≡ 0 → (IsCounters p → MayFollow volume parts p) × (MayFollow volume parts p → IsCounters p)
first_follows volume [] p none = ((λ is. is), (λ is. is))
first_follows volume (q ∷ ps) p none = absurd (omega (arith, none))

second_follows : (volume : Volume) (parts : List Part) (p : Part) → length parts ≡ 1 → (IsRootPart p → MayFollow volume parts p) × (MayFollow volume parts p → IsRootPart p)
second_follows volume [] p one = absurd (omega (arith, one))
second_follows volume (q ∷ []) p one = ((λ is. is), (λ is. is))
second_follows volume (q ∷ r ∷ ps) p one = absurd (omega (arith, one))

next_follows : (volume : Volume) (parts : List Part) (p : Part) → 2 ≤ length parts → (MayBeNext (made_of volume parts) p → MayFollow volume parts p) × (MayFollow volume parts p → MayBeNext (made_of volume parts) p)
next_follows volume [] p two = absurd (omega (arith, two))
next_follows volume (q ∷ []) p two = absurd (omega (arith, two))
next_follows volume (q ∷ r ∷ ps) p two = ((λ is. is), (λ is. is))

pub first_tells : (s : Export) (p : Part) (b : Bool) → IsTrue b ↔ IsCounters p → TellsPart Empty s p b
first_tells s p b means volume before so =
    let follows = first_follows volume so.parts p so.at in
    ((λ yes. (so.parts, so.are, follows.0 (means.0 yes))), (λ goes. means.1 (follows.1 (goes_is volume before Empty s p so goes))))

pub second_tells : (s : Export) (p : Part) (b : Bool) → IsTrue b ↔ IsRootPart p → TellsPart Counters s p b
second_tells s p b means volume before so =
    let follows = second_follows volume so.parts p so.at in
    ((λ yes. (so.parts, so.are, follows.0 (means.0 yes))), (λ goes. means.1 (follows.1 (goes_is volume before Counters s p so goes))))

pub next_tells : (s : Export) (p : Part) (b : Bool) → IsTrue b ↔ MayBeNext s p → TellsPart Parts s p b
next_tells s p b means volume before so =
    let follows = next_follows volume so.parts p so.at in (
      (λ yes. (so.parts, so.are, follows.0 (subst (λ (x : Export). MayBeNext x p) so.made (means.0 yes)))),
      (λ goes. means.1 (subst (λ (x : Export). MayBeNext x p) (sym so.made) (follows.1 (goes_is volume before Parts s p so goes)))),
    )

pub never_tells : (s : Export) (p : Part) → TellsPart Calls s p false
never_tells s p volume before so = ((λ no. absurd (let wrong : false ≡ true = no in cc)), (λ goes. absurd (so.past goes.0 goes.1)))

-- ---- a part more

parts_add : (volume : Volume) (before : List Said) (stage : ReopenProgress) (s : Export) (p : Part) → ArePartsSoFar volume before stage s → PartGoes volume before p → MayAdd s p
parts_add volume before stage s p so goes =
    let all = all-add volume (so.parts ++ p ∷ []) (follow_more volume [] so.parts p so.each (goes_is volume before stage s p so goes)) in
    subst (λ (x : Export). MayAdd x p) (sym so.made) (add_last (new_export volume 0) so.parts p all)

add_there : (volume : Volume) (before : List Said) (stage : ReopenProgress) (s : Export) (p : Part) → IsProgress volume before stage s → PartGoes volume before p → MayAdd s p
add_there volume before Empty s p so goes = parts_add volume before Empty s p so goes
add_there volume before Counters s p so goes = parts_add volume before Counters s p so goes
add_there volume before Parts s p so goes = parts_add volume before Parts s p so goes
add_there volume before Calls s p so goes = absurd (so.past goes.0 goes.1)

pub may_add : (stage : ReopenProgress) (s : Export) (p : Part) → IsSomeStage stage s → TellsPart stage s p true → MayAdd s p
may_add stage s p some tells = add_there some.0 some.1 stage s p some.2 ((tells some.0 some.1 some.2).0 refl)

parts_more : (volume : Volume) (before : List Said) (stage later : ReopenProgress) (s u : Export) (p : Part) (so : ArePartsSoFar volume before stage s) → PartGoes volume before p → u ≡ with_part s p → HasPartsSoFar later (length so.parts + 1) → ArePartsSoFar volume (before ++ entry.Built p ∷ []) later u
parts_more volume before stage later s u p so goes made at = record {
  parts = so.parts ++ p ∷ [];
  are = ap (λ (es : List Said). es ++ entry.Built p ∷ []) so.are ∙ sym (map_more so.parts p);
  each = follow_more volume [] so.parts p so.each (goes_is volume before stage s p so goes);
  made = made ∙ ap (λ (x : Export). with_part x p) so.made ∙ sym (made-more (new_export volume 0) so.parts p);
  at = subst (HasPartsSoFar later) (sym (length_more so.parts p)) at;
}

pub part_added : (stage : ReopenProgress) (s u : Export) (p : Part) → TellsPart stage s p true → u ≡ with_part s p → IsAdded (entry.Built p) stage s true (after_part stage) u
part_added Empty s u p tells made volume before so =
    let goes = (tells volume before so).0 refl in
    (goes, parts_more volume before Empty Counters s u p so goes made (let none = so.at in omega (arith, none)))
part_added Counters s u p tells made volume before so =
    let goes = (tells volume before so).0 refl in
    (goes, parts_more volume before Counters Parts s u p so goes made (let one = so.at in omega (arith, one)))
part_added Parts s u p tells made volume before so =
    let goes = (tells volume before so).0 refl in
    (goes, parts_more volume before Parts Parts s u p so goes made (let two = so.at in omega (arith, two)))
part_added Calls s u p tells made volume before so = let goes = (tells volume before so).0 refl in absurd (so.past goes.0 goes.1)

pub part_stops : (stage : ReopenProgress) (s : Export) (p : Part) (later : ReopenProgress) (u : Export) → TellsPart stage s p false → IsAdded (entry.Built p) stage s false later u
part_stops stage s p later u tells volume before so goes = (let wrong : false ≡ true = (tells volume before so).1 goes in absurd (cc))

-- ---- a call more

pub call_goes : (volume : Volume) (before : List Said) (e : Said) (c : Call) → call_said e ≡ Some c → CallGoes volume before (Some c) → MayFollowEntries volume before e
call_goes volume before (entry.Tree t) c said goes = subst (CallGoes volume before) (sym said) goes
call_goes volume before (entry.Begin key bytes) c said goes = subst (CallGoes volume before) (sym said) goes
call_goes volume before (entry.Publish key stamp mask bytes) c said goes = subst (CallGoes volume before) (sym said) goes
call_goes volume before (entry.Enroll node loss) c said goes = subst (CallGoes volume before) (sym said) goes
call_goes volume before (entry.Built p) c said goes = absurd (cc)

goes_call : (volume : Volume) (before : List Said) (e : Said) (c : Call) → call_said e ≡ Some c → MayFollowEntries volume before e → CallGoes volume before (Some c)
goes_call volume before (entry.Tree t) c said goes = subst (CallGoes volume before) said goes
goes_call volume before (entry.Begin key bytes) c said goes = subst (CallGoes volume before) said goes
goes_call volume before (entry.Publish key stamp mask bytes) c said goes = subst (CallGoes volume before) said goes
goes_call volume before (entry.Enroll node loss) c said goes = subst (CallGoes volume before) said goes
goes_call volume before (entry.Built p) c said goes = absurd (cc)

pub call_added : (stage : ReopenProgress) (s u : Export) (c : Call) → TellsEnd stage s true → IsAccepted s c → u ≡ export_after s c → (e : Said) → call_said e ≡ Some c → IsAdded e stage s true Calls u
call_added stage s u c tells is made e said volume before so =
    let well = (tells volume before so).0 refl in
    let same = stage_made volume before stage s so in (
      call_goes volume before e c said (well, subst (λ (x : Export). IsAccepted x c) same is),
      record {
        made = made ∙ ap (λ (x : Export). export_after x c) same ∙ sym (said_call (made_by volume before) e c said) ∙ sym (said_last (new_export volume 0) before e);
        makes = subst (Makes volume (before ++ e ∷ [])) (sym made) (makes_said volume before s c e (stage_makes volume before stage s so well) is said);
        past = λ ps same. not_parts before e c ps said same;
      },
    )

-- the parts before the call do not end well
pub early_stops : (stage : ReopenProgress) (s : Export) (c : Call) (later : ReopenProgress) (u : Export) → TellsEnd stage s false → (e : Said) → call_said e ≡ Some c → IsAdded e stage s false later u
early_stops stage s c later u tells e said volume before so goes =
    (let wrong : false ≡ true = (tells volume before so).1 (goes_call volume before e c said goes).0 in absurd (cc))

-- the call is not accepted
pub call_stops : (stage : ReopenProgress) (s : Export) (c : Call) (later : ReopenProgress) (u : Export) → ¬ IsAccepted s c → (e : Said) → call_said e ≡ Some c → IsAdded e stage s false later u
call_stops stage s c later u never e said volume before so goes =
    never (subst (λ (x : Export). IsAccepted x c) (sym (stage_made volume before stage s so)) (goes_call volume before e c said goes).1)

-- a begin of more bytes than a block has is not accepted
pub long_stops : (stage : ReopenProgress) (s : Export) (key : Key) (bytes : ℕ) (later : ReopenProgress) (u : Export) → block_bytes_of s.volume.layout < bytes → IsAdded (entry.Begin key bytes) stage s false later u
long_stops stage s key bytes later u long =
    let zeros : List ℕ = replicate bytes 0 in
    call_stops stage s (call.Begin key zeros) later u
    (λ (is : IsAccepted s (call.Begin key zeros)).
    let within : length zeros ≤ block_bytes_of s.volume.layout = leb-true (length zeros) (block_bytes_of s.volume.layout) is.proper in
    let count : length zeros ≡ bytes = length-replicate bytes 0 in
    absurd (omega (arith, long, within, count)))
    (entry.Begin key bytes) refl

-- what is added of a call is added of its entry
pub added_of : {E : Type 0} (r : Result Bool E) (e : Said) (c : Call) (stage later : ReopenProgress) (s u : Export) → call_said e ≡ Some c
    → IfOk r (λ goes. (d : Said) → call_said d ≡ Some c → IsAdded d stage s goes later u) → IfOk r (λ goes. IsAdded e stage s goes later u)
added_of (Ok goes) e c stage later s u said added = added e said
added_of (Err fault) e c stage later s u said added = tt

-- what a reply says that is not want of memory
pub asked : (s u : Export) (c : Call) (r : Reply) → IsAnswered s c r u → r ≢ NoMemory → (accepts r ≡ accepts (export_reply s c)) × (u ≡ export_after s c)
asked s u c r answered other = ⊎_elim
    (λ (model : (r ≡ export_reply s c) × (u ≡ export_after s c)). (ap accepts model.0, model.1))
    (λ (want : MayWant s c × (r ≡ NoMemory) × (u ≡ s)). absurd (other want.1))
    answered

-- ---- all entries so far

-- The entries up to an address of a half, so many, and what they make.
pub record GoSoFar (volume : Volume) (half : List ℕ) (at count : ℕ) (stage : ReopenProgress) (s : Export) : Type 0 where
  pub before : List Said
  pub so_far : SoFar half before at
  pub go : AllGo volume [] before
  pub stands : IsProgress volume before stage s
  pub number : count ≡ length before
  pub inside : at < length half
  pub few : count ≤ at

go_more : (volume : Volume) (before es : List Said) (e : Said) → AllGo volume before es → MayFollowEntries volume (before ++ es) e → AllGo volume before (es ++ e ∷ [])
go_more volume before [] e all goes = (subst (λ (l : List Said). MayFollowEntries volume l e) (append-nil before) goes, tt)
go_more volume before (x ∷ es) e all goes =
    (all.0, go_more volume (before ++ x ∷ []) es e all.1 (subst (λ (l : List Said). MayFollowEntries volume l e) (sym (append_assoc before (x ∷ []) es)) goes))

count_more : (es : List Said) (e : Said) → length (es ++ e ∷ []) ≡ length es + 1
count_more [] e = refl
count_more (x ∷ es) e = let rest = count_more es e in omega (arith, rest)

pub go_first : (volume : Volume) (half : List ℕ) (s : Export) → 1 ≤ length half → s ≡ new_export volume 0 → GoSoFar volume half 0 0 Empty s
go_first volume half s some made = record {
  before = [];
  so_far = none_so_far half;
  go = tt;
  stands = none_stand volume s made;
  number = refl;
  inside = omega (arith, some);
  few = omega arith;
}

module _ (volume : Volume) (half : List ℕ) (at count : ℕ) (stage : ReopenProgress) (s : Export) (so : GoSoFar volume half at count stage s) (step : EntryFound) (stands : IsEntryFound half at step) where
  stop : IsWrong volume half so.before at → IsDamagedAt volume half count
  stop wrong = record { before = so.before; used = at; so_far = so.so_far; go = so.go; wrong = wrong; count = so.number }

  pub go_end : step ≡ End → TellsEnd stage s true → MakeExport volume half at s
  go_end is tells = record {
    entries = so.before;
    so_far = so.so_far;
    ends = subst (IsEntryFound half at) is stands;
    go = so.go;
    well = (tells volume so.before so.stands).0 refl;
    made = stage_made volume so.before stage s so.stands;
    makes = stage_makes volume so.before stage s so.stands ((tells volume so.before so.stands).0 refl);
  }

  pub go_badly : step ≡ End → TellsEnd stage s false → IsDamagedAt volume half count
  go_badly is tells = stop (inr (inr (subst (IsEntryFound half at) is stands, λ well. (let wrong : false ≡ true = (tells volume so.before so.stands).1 well in absurd (cc)))))

  pub go_damaged : step ≡ Damaged → IsDamagedAt volume half count
  go_damaged is = stop (inl (subst (IsEntryFound half at) is stands))

  module _ (e : Said) (next : ℕ) (is : step ≡ Entry e next) (later : ReopenProgress) (u : Export) where
    pub go_stop : IsAdded e stage s false later u → IsDamagedAt volume half count
    go_stop added = stop (inr (inl (e, next, subst (IsEntryFound half at) is stands, added volume so.before so.stands)))

    pub go_on : IsAdded e stage s true later u → GoSoFar volume half next (count + 1) later u
    go_on added =
        let here : IsEntryFound half at (Entry e next) = subst (IsEntryFound half at) is stands in
        let number = so.number in
        let few = so.few in
        let behind = next_is half at step e next is stands in
        let goes = added volume so.before so.stands in
        record {
          before = so.before ++ e ∷ [];
          so_far = one_more half so.before at e next so.so_far here;
          go = go_more volume [] so.before e so.go goes.0;
          stands = goes.1;
          number = (let long = count_more so.before e in omega (arith, long, number));
          inside = behind.1;
          few = (let up = behind.0 in omega (arith, few, up));
        }
