-- How a read of a legal history may end.
use Rattle.std.proofs.Common.{ℕ, Bool, true, false, not, ◌≡◌, inl, inr, ◌≤◌, ◌<◌, List, [], ◌∷◌, ◌++◌, Option, Some, cond, refl, sym, ◌∙◌, ap, subst, arith, ◌&&◌, ◌||◌, count_by}
use Rattle.std.proofs.lemmas.Bool.{and_parts}
use Rattle.mj_angles.specs.Layout.{inverse_of}
use Rattle.rz_export_model.specs.Export.{is_mask}
use Rattle.rz_core.specs.Outcomes.{is_held}
use Rattle.rz_events.specs.Volume.{Volume}
use Rattle.rz_events.specs.declared.keys.Key.{Key}
use Rattle.rz_events.specs.declared.keys.Actor.{Actor}
use Rattle.rz_events.specs.declared.files.Published.{Published}
use Rattle.rz_events.specs.declared.ends.Denial.{Denial}
use Rattle.rz_events.specs.declared.ends.Denial.TheVariants as denial
use Rattle.rz_events.specs.declared.ends.ReadEnd.{ReadEnd}
use Rattle.rz_events.specs.declared.ends.ReadEnd.TheVariants as read
use Rattle.rz_events.specs.declared.ends.Seen.{Seen}
use Rattle.rz_events.specs.declared.export.Asked.TheVariants as asked
use Rattle.rz_events.specs.declared.events.Event.{Event}
use Rattle.rz_events.specs.declared.events.Event.TheVariants as e
use Rattle.rz_events.specs.Events.{by_of, same_actor}
use Rattle.rz_core.specs.History.{facts, of_actor, Has}
use Rattle.rz_export_model.specs.Files.{makes, ends}
use Rattle.rz_core.specs.ExportWord.{latest, accepted, with_length, is_live, is_made, is_gone}
use Rattle.rz_events.specs.Masks.{stamp_told}
use Rattle.rz_core.specs.ExportRows.{IsInFile, DeniedRow}
use Rattle.rz_core.specs.Own.{last, since, is_look, is_recheck, is_export}
use Rattle.rz_core.specs.OwnRows.{TooFewRow, GotRow}
use Rattle.rz_core.specs.Legal.{IsLegalInRuns}
use Rattle.rz_core.proofs.Extends.{some_length, last-has}
use Rattle.rz_core.proofs.Locality.{legal-rest}
use Rattle.rz_core.proofs.Stamps.{export, cases_le, accepted-latest, accepted-more, accepted-mask}
use Rattle.rz_safety.specs.Reads.{IsAcked, is_look_denial, before_look, before_export}
use Rattle.rz_safety.specs.Sound.{IsFew, IsReadAnswer, IsReached, IsMoved, IsSoundRead}
use Rattle.rz_safety.proofs.Acked.{acked-accepted, accepted-acked, acked-more}
use Rattle.rz_safety.proofs.ReadLaws.{skip, looked, found_sound, hole_sound}
use Rattle.rz_safety.proofs.Counts.{few-missing}

-- files stay made, and stay gone
pub made-more : (more h : List Event) (fid : ℕ) → is_made (export h) fid ≡ true → is_made (export (more ++ h)) fid ≡ true
made-more [] h fid k = k
made-more (e.Meta by call reply ∷ more) h fid k = rw (made-more more h fid k) (or_true (makes reply fid))
  where
    or_true : (b : Bool) → (b || true) ≡ true
    or_true true = refl
    or_true false = refl
made-more (x ∷ more) h fid k = made-more more h fid k

pub gone-more : (more h : List Event) (fid : ℕ) → is_gone (export h) fid ≡ true → is_gone (export (more ++ h)) fid ≡ true
gone-more [] h fid k = k
gone-more (e.Meta by call reply ∷ more) h fid k = rw (gone-more more h fid k) (or_true (ends reply fid))
  where
    or_true : (b : Bool) → (b || true) ≡ true
    or_true true = refl
    or_true false = refl
gone-more (x ∷ more) h fid k = gone-more more h fid k

-- The actor's newest event of the export's word stands after `earlier`, and its newest look, if that is another event,
-- stands in it.
pub record IsNewest (h : List Event) (a : Actor) (x : Event) (earlier : List Event) : Type 0 where
  pub rest : (more : List Event) × (more ++ (x ∷ earlier) ≡ h)
  pub look : is_look x ≡ false → before_look a h ≡ before_look a earlier
  pub last_look : is_look x ≡ false → last is_look (of_actor a h) ≡ last is_look (of_actor a earlier)

-- an event that is no look leaves the newest look
not_look : (a : Actor) (y : Event) (h : List Event) → is_look y ≡ false → before_look a (y ∷ h) ≡ before_look a h
not_look a (e.Look by key answer) h n = cc
not_look a (_) h n = refl

look_is_export : (y : Event) → is_export y ≡ false → is_look y ≡ false
look_is_export (e.Look by key answer) n = cc
look_is_export (_) n = refl

-- an event of another actor leaves the newest look
others : (a : Actor) (y : Event) (h : List Event) → same_actor a (by_of y) ≡ false → before_look a (y ∷ h) ≡ before_look a h
others a (e.Look by key answer) h n = rw n refl
others a (_) h n = refl

pub newest-export : (a : Actor) (h : List Event) (x : Event) → last is_export (of_actor a h) ≡ Some x → IsNewest h a x (before_export a h)
newest-export a [] x k = cc
newest-export a (y ∷ h) x k = go (same_actor a (by_of y)) (is_export y) refl refl k (newest-export a h x)
  where
    go : (t u : Bool) → same_actor a (by_of y) ≡ t → is_export y ≡ u
        → last is_export (cond t (y ∷ of_actor a h) (of_actor a h)) ≡ Some x
        → (last is_export (of_actor a h) ≡ Some x → IsNewest h a x (before_export a h)) → IsNewest (y ∷ h) a x (cond (t && u) h (before_export a h))
    go true true p q k rest =
        let same : y ≡ x = newest_is q k in
        record {
          rest = ([], ap (λ (z : Event). z ∷ h) (sym same));
          look = λ n. not_look a y h (ap is_look same ∙ n);
          last_look = λ n. skip (same_actor a (by_of y)) y (of_actor a h) (ap is_look same ∙ n);
        }
      where
        newest_is : is_export y ≡ true → cond (is_export y) (Some y) (last is_export (of_actor a h)) ≡ Some x → y ≡ x
        newest_is q k = let l : Some y ≡ Some x = (ap (λ b. cond b (Some y) (last is_export (of_actor a h))) (sym q)) ∙ k in cc
    go true false p q k rest =
        let r = rest (ap (λ b. cond b (Some y) (last is_export (of_actor a h))) (sym q) ∙ k) in
        record {
          rest = (y ∷ r.rest.0, ap (λ (l : List Event). y ∷ l) r.rest.1);
          look = λ n. not_look a y h (look_is_export y q) ∙ r.look n;
          last_look = λ n. skip (same_actor a (by_of y)) y (of_actor a h) (look_is_export y q) ∙ r.last_look n;
        }
    go false u p q k rest =
        let r = rest k in
        record {
          rest = (y ∷ r.rest.0, ap (λ (l : List Event). y ∷ l) r.rest.1);
          look = λ n. others a y h p ∙ r.look n;
          last_look = λ n. ap (λ t. last is_look (cond t (y ∷ of_actor a h) (of_actor a h))) p ∙ r.last_look n;
        }

-- the newest event of the export's word, as it was allowed
pub newest-legal : (v : Volume) (a : Actor) (h earlier : List Event) (x : Event) → IsLegalInRuns v h → IsNewest h a x earlier → IsLegalInRuns v (x ∷ earlier)
newest-legal v a h earlier x legal n = legal-rest v n.rest.0 (x ∷ earlier) (subst (IsLegalInRuns v) (sym n.rest.1) legal)

-- An event since the actor's newest look that is no look itself stands after that look.
pub since-look : (a : Actor) (h : List Event) (x : Event) → is_look x ≡ false → Has (since is_look (of_actor a h)) x → (earlier : List Event) × IsNewest h a x earlier
since-look a [] x other has = absurd has
since-look a (y ∷ h) x other has = go (same_actor a (by_of y)) (is_look y) refl refl has (since-look a h x other)
  where
    go : (t u : Bool) → same_actor a (by_of y) ≡ t → is_look y ≡ u → Has (since is_look (cond t (y ∷ of_actor a h) (of_actor a h))) x
        → (Has (since is_look (of_actor a h)) x → (earlier : List Event) × IsNewest h a x earlier) → (earlier : List Event) × IsNewest (y ∷ h) a x earlier
    go true true p q has rest = absurd (subst (λ (b : Bool). Has (cond b [] (y ∷ since is_look (of_actor a h))) x) q has)
    go true false p q has rest = here (subst (λ (b : Bool). Has (cond b [] (y ∷ since is_look (of_actor a h))) x) q has)
      where
        here : Has (y ∷ since is_look (of_actor a h)) x → (earlier : List Event) × IsNewest (y ∷ h) a x earlier
        here (inl same) = (
          h,
          record {
            rest = ([], ap (λ (z : Event). z ∷ h) (sym same));
            look = λ n. not_look a y h q;
            last_look = λ n. skip (same_actor a (by_of y)) y (of_actor a h) q;
          },
        )
        here (inr more) =
            let (earlier, r) = rest more in (
              earlier,
              record {
                rest = (y ∷ r.rest.0, ap (λ (l : List Event). y ∷ l) r.rest.1);
                look = λ n. not_look a y h q ∙ r.look n;
                last_look = λ n. skip (same_actor a (by_of y)) y (of_actor a h) q ∙ r.last_look n;
              },
            )
    go false u p q has rest =
        let (earlier, r) = rest has in (
          earlier,
          record {
            rest = (y ∷ r.rest.0, ap (λ (l : List Event). y ∷ l) r.rest.1);
            look = λ n. others a y h p ∙ r.look n;
            last_look = λ n. ap (λ t. last is_look (cond t (y ∷ of_actor a h) (of_actor a h))) p ∙ r.last_look n;
          },
        )

-- two records of what a look was told agree
same_told : (a : Actor) (key : Key) (p q : Published) (o : Option Event) → o ≡ Some (e.Look a key (Some p)) → o ≡ Some (e.Look a key (Some q)) → p ≡ q
same_told a key p q o x y = cc

-- a recheck that told another stamp: that one is greater, and was acknowledged since
moved_right : (v : Volume) (a : Actor) (h : List Event) → IsLegalInRuns v h → (key : Key) (p : Published) (told : Option Published) (was now : ℕ)
    → last is_look (of_actor a h) ≡ Some (e.Look a key (Some p)) → p.stamp ≡ was
    → last is_recheck (since is_look (of_actor a h)) ≡ Some (e.Recheck a key told) → stamp_told told ≡ now → ¬ (now ≡ was)
    → IsMoved (before_look a h) h key p was now
moved_right v a h legal key p told was now is same again says moved =
    let (hr, n) = since-look a h (e.Recheck a key told) refl (last-has is_recheck (since is_look (of_actor a h)) (e.Recheck a key told) again) in
    let rl = newest-legal v a h hr (e.Recheck a key told) legal n in
    let l = looked v a hr rl.0 key (Some p) (sym (n.last_look refl) ∙ is) in
    let earlier = before_look a hr in
    let pa = some_length (facts earlier) (accepted (export earlier) key) p l.legal.1.row.told in
    let am = accepted-more l.rest.0 (e.Look a key (Some p) ∷ earlier) key pa.0 pa.1 in
    let here : accepted (export hr) key ≡ Some am.0 = ap (λ (z : List Event). accepted (export z) key) (sym l.rest.1) ∙ am.1 in
    let told_is : stamp_told told ≡ am.0.0 = ap stamp_told (rl.1.row.told ∙ ap (with_length (facts hr)) here) in
    let at_now : am.0.0 ≡ now = sym told_is ∙ says in
    let low : p.stamp ≤ now = subst (λ z. p.stamp ≤ z) at_now (subst (λ z. z ≤ am.0.0) (sym pa.2) am.2) in
    let acked_then : IsAcked hr key now = subst (λ z. IsAcked hr key z) at_now (accepted-acked hr key am.0 here) in
    let acked_now : IsAcked h key now =
    subst (λ (z : List Event). IsAcked z key now) n.rest.1 (acked-more n.rest.0 (e.Recheck a key told ∷ hr) key now (acked_then.0, acked_then.1, inr acked_then.2)) in
    record {
      was_is = sym same;
      greater = above p.stamp was now same low moved;
      acked = acked_now;
      later = λ old.
          let old_there : IsAcked earlier key now = subst (λ (z : List Event). IsAcked z key now) (n.look refl) old in
          let m = acked-accepted v earlier l.legal.0 key now old_there in
          let agree : m.0 ≡ pa.0 = cc in
          let agree0 = ap (λ (w : ℕ × ℕ). w.0) agree in
          let more = above p.stamp was now same low moved in
          let m2 = m.2 in
          let p2 = pa.2 in
          absurd (omega (arith, more, m2, agree0, p2));
    }
  where
    above : (s was now : ℕ) → s ≡ was → s ≤ now → ¬ (now ≡ was) → s < now
    above s was now same low moved = elim (cases_le s now) [ inl l ↦ absurd (moved (omega arith)) | inr l ↦ l ]

pub gone_if : (m g : Bool) → (m && not g) ≡ false → m ≡ true → g ≡ true
gone_if true true e k = refl
gone_if true false e k = cc
gone_if false g e k = cc

pub not_live : (m g : Bool) → g ≡ true → ¬ ((m && not g) ≡ true)
not_live true true k e = cc
not_live false true k e = cc
not_live m false k e = cc

-- a recheck of a block that was looked up is denied only where its file is gone
denied_gone : (v : Volume) (a : Actor) (h : List Event) → IsLegalInRuns v h → (key : Key) (answer : Option Published) (cause : Denial)
    → last is_look (of_actor a h) ≡ Some (e.Look a key answer)
    → last is_export (of_actor a h) ≡ Some (e.Denied a (asked.Recheck key) cause) → ¬ (is_live (export h) key.fid ≡ true)
denied_gone v a h legal key answer cause is denied live =
    let n = newest-export a h (e.Denied a (asked.Recheck key) cause) denied in
    let hr = before_export a h in
    let rl = newest-legal v a h hr (e.Denied a (asked.Recheck key) cause) legal n in
    let l = looked v a hr rl.0 key answer (sym (n.last_look refl) ∙ is) in
    by_cause cause rl.1.row l.legal.1.row.block
    (λ dead.
    let was_made = (and_parts (is_made (export (before_look a hr)) key.fid) (not (is_gone (export (before_look a hr)) key.fid)) l.legal.1.row.live).0 in
    let made : is_made (export hr) key.fid ≡ true =
    subst (λ (z : List Event). is_made (export z) key.fid ≡ true) l.rest.1 (made-more l.rest.0 (e.Look a key answer ∷ before_look a hr) key.fid was_made) in
    let gone = gone_if (is_made (export hr) key.fid) (is_gone (export hr) key.fid) dead made in
    let still : is_gone (export h) key.fid ≡ true =
    subst (λ (z : List Event). is_gone (export z) key.fid ≡ true) n.rest.1 (gone-more n.rest.0 (e.Denied a (asked.Recheck key) cause ∷ hr) key.fid gone) in
    not_live (is_made (export h) key.fid) (is_gone (export h) key.fid) still live)
  where
    by_cause : (c : Denial) → DeniedRow (export (before_export a h)) (asked.Recheck key) c → IsInFile key
        → (is_live (export (before_export a h)) key.fid ≡ false → ⊥) → ⊥
    by_cause denial.UnknownFile row block dead = dead row
    by_cause denial.BlockTooFar row block dead = let far = row.1 in absurd (omega (arith, far, block))
    by_cause denial.StampsSpent row block dead = row
    by_cause (denial.OldLoss kept) row block dead = row

-- too few records came, so too many positions of the published mask gave none
few_right : (v : Volume) (a : Actor) (h : List Event) → IsLegalInRuns v h → (key : Key) (p : Published) (seen : List Seen)
    → TooFewRow v (facts h) (of_actor a h) a key seen → last is_look (of_actor a h) ≡ Some (e.Look a key (Some p)) → IsFew v p.mask seen
few_right v a h legal key p seen r is =
    let l = looked v a h legal key (Some p) is in
    let pa = some_length (facts (before_look a h)) (accepted (export (before_look a h)) key) p l.legal.1.row.told in
    let quorum = accepted-mask v (before_look a h) l.legal.0 key pa.0 pa.1 in
    let short = r.short in
    subst (λ t. IsFew v p.mask t) (sym short.told_is)
    (few-missing v.layout p.mask key r.published.stamp (since is_look (of_actor a h)) short.places (ap (λ m. is_mask v.layout m) pa.3 ∙ quorum)
    (subst (λ t. count_by is_held t < inverse_of v.layout) short.told_is short.few))

-- what a read of a legal history may say
pub read_sound : (v : Volume) (a : Actor) (h : List Event) → IsLegalInRuns v h → (key : Key) (end : ReadEnd) → GotRow v (facts h) (of_actor a h) a key end → IsSoundRead v h a key end
read_sound v a h legal key (read.Found s text) r = record {
  right = found_sound v a h legal key s text r;
  reached = λ p look live. let same = same_told a key p r.looked.0 _ look.told r.looked.1 in sym (ap (λ (q : Published). q.stamp) same ∙ r.looked.2);
}
read_sound v a h legal key read.Hole r = record {
  right = record { looked = r; none = hole_sound v a h legal key r };
  reached = λ p look live. let both = sym r ∙ look.told in cc;
}
read_sound v a h legal key (read.TooFew seen) r = record {
  right = tt;
  reached = λ p look live. few_right v a h legal key p seen r look.told;
}
read_sound v a h legal key (read.Moved was now) r = record {
  right = tt;
  reached = λ p look live.
      let same = same_told a key p r.looked.0 _ look.told r.looked.1 in
      moved_right v a h legal key p r.again.0 was now look.told (ap (λ (q : Published). q.stamp) same ∙ r.looked.2) r.again.1 r.again.2 r.moved;
}
read_sound v a h legal key (read.Denied cause) (inl at_look) = record {
  right = tt;
  reached = λ p look live. let there = look.there in let so = ap is_look_denial at_look in cc;
}
read_sound v a h legal key (read.Denied cause) (inr (again, (answer, is))) = record {
  right = tt;
  reached = λ p look live. denied_gone v a h legal key answer cause is again live;
}
read_sound v a h legal key read.Inconsistent r = absurd r

-- a read whose block is quiet answers, unless too many nodes gave no record
pub answer_right : (v : Volume) (h : List Event) → IsLegalInRuns v h → (start : List Event) (key : Key) (p : Published) (end : ReadEnd)
    → latest (export h) key ≤ p.stamp → IsReached v start h key p end → IsReadAnswer v p end
answer_right v h legal start key p (read.Found s text) quiet r = r
answer_right v h legal start key p (read.TooFew seen) quiet r = r
answer_right v h legal start key p (read.Moved was now) quiet r =
    let m = acked-accepted v h legal key now r.acked in
    let l = accepted-latest v h legal key m.0 m.1 in
    let up = r.greater in
    let m2 = m.2 in
    absurd (omega (arith, quiet, l, up, m2))
answer_right v h legal start key p read.Hole quiet r = absurd r
answer_right v h legal start key p read.Inconsistent quiet r = absurd r
answer_right v h legal start key p (read.Denied why) quiet r = absurd r
