-- How the writes of a legal history end.
use Rattle.std.proofs.Common.{ℕ, Bool, true, false, ◌≡◌, inl, inr, ◌<◌, List, [], ◌∷◌, ◌++◌, Some, None, cond, refl, sym, ap, subst, arith}
use Rattle.rz_events.specs.Volume.{Volume}
use Rattle.rz_events.specs.declared.keys.Key.{Key}
use Rattle.rz_events.specs.declared.keys.Actor.{Actor}
use Rattle.rz_events.specs.declared.ends.Denial.{Denial}
use Rattle.rz_events.specs.declared.ends.WriteEnd.{WriteEnd}
use Rattle.rz_events.specs.declared.ends.WriteEnd.TheVariants as write
use Rattle.rz_events.specs.declared.export.Asked.{Asked}
use Rattle.rz_events.specs.declared.export.Asked.TheVariants as asked
use Rattle.rz_events.specs.declared.events.Word.TheVariants.{Export}
use Rattle.rz_events.specs.declared.events.Event.{Event}
use Rattle.rz_events.specs.declared.events.Event.TheVariants as e
use Rattle.rz_events.specs.Events.{by_of, word_of, same_actor, same_word, same_key}
use Rattle.rz_core.specs.History.{facts, Begun, IsWriter, of_actor, Has}
use Rattle.rz_core.specs.ExportWord.{latest}
use Rattle.rz_core.specs.Own.{last, is_export, is_begin, is_publish}
use Rattle.rz_core.specs.OwnRows.{GaveRow}
use Rattle.rz_core.specs.Legal.{IsLegalInRuns}
use Rattle.rz_core.proofs.Extends.{last-has}
use Rattle.rz_core.proofs.Stamps.{export, same_key-true, wrote-has}
use Rattle.rz_core.proofs.NodeLaws.{filter-has}
use Rattle.rz_safety.specs.Reads.{before_export}
use Rattle.rz_safety.specs.Writes.{IsBegunBy, IsDenied, IsOvertaken, IsWriteEnd, AreWritesEnded}
use Rattle.rz_safety.proofs.EndLaws.{newest-export, newest-legal}

-- the newest own event that passes a test stands in the history
own-has : (test : Event → Bool) (a : Actor) (h : List Event) (x : Event) → last test (of_actor a h) ≡ Some x → Has h x
own-has test a h x is = filter-has (λ y. same_actor a (by_of y)) h x (last-has test (of_actor a h) x is)

-- a write that is known was begun by its writer
writer-begun : (h : List Event) (by : Actor) (key : Key) (s : ℕ) → (b : Begun) × IsWriter (facts h) by key s b → IsBegunBy h by key s
writer-begun h by key s (b, w) =
    let has = wrote-has h s b w.found in
    (b.base, b.text, subst (λ z. Has h (e.Begin by z s b.base b.text)) w.key_is (subst (λ z. Has h (e.Begin z b.key s b.base b.text)) w.by_is has))

begun-later : (more h : List Event) (by : Actor) (key : Key) (s : ℕ) → IsBegunBy h by key s → IsBegunBy (more ++ h) by key s
begun-later [] h by key s b = b
begun-later (x ∷ more) h by key s b = let i = begun-later more h by key s b in (i.0, i.1, inr i.2)

-- who publishes a write began it
published-begun : (v : Volume) (h : List Event) → IsLegalInRuns v h → (by : Actor) (key : Key) (s mask : ℕ) → Has h (e.Publish by key s mask None) → IsBegunBy h by key s
published-begun v [] legal by key s mask has = absurd has
published-begun v (x ∷ h) legal by key s mask (inl is) =
    let legal' = subst (λ y. IsLegalInRuns v (y ∷ h)) is legal in
    begun-later (x ∷ []) h by key s (writer-begun h by key s legal'.1.row.publishable.publishing.writer)
published-begun v (x ∷ h) legal by key s mask (inr has) = begun-later (x ∷ []) h by key s (published-begun v h legal.0 by key s mask has)

-- the newest write of a key began
latest-begun : (w : List Event) (key : Key) → 0 < latest w key → (by : Actor) × IsBegunBy w by key (latest w key)
latest-begun [] key some = absurd (omega (arith, some))
latest-begun (e.Begin by at stamp base text ∷ w) key some = go (same_key key at) refl some (latest-begun w key)
  where
    go : (t : Bool) → same_key key at ≡ t → 0 < cond t stamp (latest w key)
        → (0 < latest w key → (a : Actor) × IsBegunBy w a key (latest w key))
        → (a : Actor) × IsBegunBy (e.Begin by at stamp base text ∷ w) a key (cond t stamp (latest w key))
    go true same some rest = (by, (base, text, inl (ap (λ z. e.Begin by z stamp base text) (sym (same_key-true key at same)))))
    go false same some rest = let i = rest some in (i.0, (i.1.0, i.1.1, inr i.1.2))
latest-begun (x ∷ w) key some = let i = latest-begun w key some in (i.0, (i.1.0, i.1.1, inr i.1.2))

word-begun : (h : List Event) (by : Actor) (key : Key) (s : ℕ) → IsBegunBy (export h) by key s → IsBegunBy h by key s
word-begun h by key s b = (b.0, b.1, filter-has (λ y. same_word Export (word_of y)) h (e.Begin by key s b.0 b.1) b.2)

denied : (v : Volume) (a : Actor) (h : List Event) → IsLegalInRuns v h → (question : Asked) (cause : Denial) → last is_export (of_actor a h) ≡ Some (e.Denied a question cause) → IsDenied h a question cause
denied v a h legal question cause is =
    let n = newest-export a h (e.Denied a question cause) is in
    record { newest = is; there = n.rest; cause_is = (newest-legal v a h (before_export a h) (e.Denied a question cause) legal n).1.row }

overtaken : (v : Volume) (a : Actor) (h : List Event) → IsLegalInRuns v h → (key : Key) (stamp later : ℕ) → last is_export (of_actor a h) ≡ Some (e.Revoked a key stamp later) → IsOvertaken h a key later
overtaken v a h legal key stamp later is =
    let n = newest-export a h (e.Revoked a key stamp later) is in
    let hr = before_export a h in
    let row = (newest-legal v a h hr (e.Revoked a key stamp later) legal n).1.row in
    let above = row.above in
    let same = row.later_is in
    let other = latest-begun (export hr) key (omega (arith, above, same)) in
    let now : (by : Actor) (s : ℕ) → IsBegunBy hr by key s → IsBegunBy h by key s =
    λ by s b. subst (λ (z : List Event). IsBegunBy z by key s) n.rest.1
    (begun-later n.rest.0 (e.Revoked a key stamp later ∷ hr) by key s (begun-later (e.Revoked a key stamp later ∷ []) hr by key s b)) in
    record {
      own = (stamp, is, now a stamp (writer-begun hr a key stamp row.writer), row.above);
      other = (other.0, subst (IsBegunBy h other.0 key) (sym same) (now other.0 (latest (export hr) key) (word-begun hr other.0 key (latest (export hr) key) other.1)));
    }

write-ended : (v : Volume) (a : Actor) (h : List Event) → IsLegalInRuns v h → (key : Key) (end : WriteEnd) → GaveRow v (facts h) (of_actor a h) a key end → IsWriteEnd v h a key end
write-ended v a h legal key (write.Acked stamp mask) r =
    let has = own-has is_publish a h (e.Publish a key stamp mask None) r in
    record { begun = published-begun v h legal a key stamp mask has; published = r }
write-ended v a h legal key (write.TooFew causes) r = record {
  stamp = r.stamp;
  begun = (r.base, r.text, r.begun);
  outcomes = (r.places, r.placed, r.causes_are);
  many = r.many;
}
write-ended v a h legal key (write.Denied cause) (inl begin) = inl (denied v a h legal (asked.Begin key) cause begin)
write-ended v a h legal key (write.Denied cause) (inr publish) = inr (denied v a h legal (asked.Publish key) cause publish)
write-ended v a h legal key (write.Revoked later) r = overtaken v a h legal key r.0 later r.1

pub written : (v : Volume) (h : List Event) → IsLegalInRuns v h → AreWritesEnded v h
written v [] legal = tt
written v (e.Gave by number key part end ∷ h) legal = (written v h legal.0, write-ended v by h legal.0 key end legal.1.row.0)
written v (x ∷ h) legal = written v h legal.0
