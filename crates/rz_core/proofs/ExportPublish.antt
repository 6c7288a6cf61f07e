-- A publish after a legal log.
use Rattle.std.proofs.Common.{ℕ, Bool, true, false, ◌≡◌, ◌≤◌, ◌<◌, ◌+◌, nat_lt, is_none, List, ◌∷◌, [], Option, Some, None, cond, refl, sym, ◌∙◌, ap, subst, arith}
use Rattle.std.specs.Prelude.{slice_get, unwrap_or}
use Rattle.std.specs.Option.{option_map, option_map_or, option_and_then, option_or}
use Rattle.std.proofs.lemmas.Bool.{ltb-true, ltb-false}
use Rattle.rz_events.specs.Volume.{Volume}
use Rattle.rz_events.specs.declared.keys.Key.{Key}
use Rattle.rz_events.specs.declared.keys.Actor.{Actor}
use Rattle.rz_events.specs.declared.files.FileInfo.{FileInfo}
use Rattle.rz_events.specs.declared.files.Published.{Published}
use Rattle.rz_events.specs.declared.export.Asked.TheVariants as asked
use Rattle.rz_events.specs.declared.export.Call.TheVariants as call
use Rattle.rz_events.specs.declared.ends.Denial.TheVariants as denial
use Rattle.rz_events.specs.declared.export.Reply.{Reply}
use Rattle.rz_events.specs.declared.export.Reply.TheVariants as reply
use Rattle.rz_events.specs.declared.events.Event.{Event}
use Rattle.rz_events.specs.declared.events.Event.TheVariants as e
use Rattle.rz_export_model.specs.Tree.{file_of}
use Rattle.rz_export_model.specs.Export.{Export as ExportState, latest_of, fence_of, barred, no_publish, after_publish}
use Rattle.rz_export_model.specs.ExportEvents.{publish_event}
use Rattle.rz_core.specs.History.{facts, of_actor, IsPlace, length_in}
use Rattle.rz_core.specs.ExportWord.{export_of}
use Rattle.rz_events.specs.Masks.{HasBit}
use Rattle.rz_core.specs.ExportRows.{IsFree, IsPublishing, IsPublishable}
use Rattle.rz_core.specs.Tied.{IsExportStep, IsExportLawOf}
use Rattle.rz_core.proofs.Extends.{extends-more}
use Rattle.rz_core.proofs.Stamps.{export}
use Rattle.rz_core.proofs.NodeSteps.{the_some}
use Rattle.rz_core.proofs.ExportSteps.{same-export}
use Rattle.rz_core.proofs.EnrollLaws.{export-rows}
use Rattle.rz_core.proofs.ExportCalls.{Before, denied, enrolment}
use Rattle.rz_core.proofs.ExportLooks.{AreNamed, IsNaming, named, tied-blocks, not-live, is-live}
use Rattle.rz_core.proofs.Fences.{fence-top, fence-has, NoneBars, barred-none, Bars, barred-some}

-- the file of a publish is unknown, or a later write of the key began, or neither
or_none : (o : Option Reply) → option_or o None ≡ o
or_none None = refl
or_none (Some r) = refl

pub publish_cases : (s : ExportState) (key : Key) (stamp mask : ℕ) (P : Option Reply → Type 0)
    → (file_of s.tree key.fid ≡ None → P (Some (reply.Denied denial.UnknownFile)))
    → ((info : FileInfo) → file_of s.tree key.fid ≡ Some info → stamp < latest_of s.blocks key → P (Some (reply.Revoked (latest_of s.blocks key))))
    → ((info : FileInfo) → file_of s.tree key.fid ≡ Some info → latest_of s.blocks key ≤ stamp → P (barred s mask stamp 0 info.places))
    → P (no_publish s key stamp mask)
publish_cases s key stamp mask P unknown late free = go (file_of s.tree key.fid) refl
  where
    by_stamp : (info : FileInfo) → file_of s.tree key.fid ≡ Some info → (t : Bool) → nat_lt stamp (latest_of s.blocks key) ≡ t
        → P (option_or (cond t (Some (reply.Revoked (latest_of s.blocks key))) None) (option_or (barred s mask stamp 0 info.places) None))
    by_stamp info is true less = late info is (ltb-true stamp (latest_of s.blocks key) less)
    by_stamp info is false low = subst P (sym (or_none (barred s mask stamp 0 info.places))) (free info is (ltb-false stamp (latest_of s.blocks key) low))

    go : (o : Option FileInfo) → file_of s.tree key.fid ≡ o
        → P (option_or (option_map reply.Denied (cond (is_none o) (Some denial.UnknownFile) None))
        (option_or (cond (nat_lt stamp (latest_of s.blocks key)) (Some (reply.Revoked (latest_of s.blocks key))) None)
        (option_or (option_and_then (λ (info : FileInfo). barred s mask stamp 0 info.places) o) None)))
    go None none = unknown none
    go (Some info) is = by_stamp info is (nat_lt stamp (latest_of s.blocks key)) refl

abbrev of_length : ℕ → ℕ → ℕ → Published
of_length stamp mask size = record { stamp = stamp; mask = mask; length = size }

-- what a publish leaves, where this stands against it or nothing
abbrev IsStep : Volume → List Event → Actor → ExportState → Key → ℕ → ℕ → ℕ → Event → Option Reply → Type 0
IsStep v h by s key stamp mask size x o = publish_event by (call.Publish key stamp mask size) (unwrap_or o reply.Accepted) ≡ Some x
    → IsExportStep v h x (option_map_or (λ why. s) o (after_publish s key (of_length stamp mask size)))

module _ (v : Volume) (h : List Event) (by : Actor) (s : ExportState) (b : Before v h s) (n : AreNamed (facts h) (export h) s)
    (key : Key) (stamp mask : ℕ) (publishing : IsPublishing v (facts h) (of_actor by h) by key stamp mask) where
  publishable : (info : FileInfo) → file_of s.tree key.fid ≡ Some info → latest_of s.blocks key ≤ stamp
      → IsPublishable v (facts h) (export h) (of_actor by h) by key stamp mask
  publishable info there low =
      let live = is-live (facts h) (export h) s n key.fid info there in
      record { live = live; newest = subst (λ z. z ≤ stamp) (tied-blocks v h s b key live).begun low; publishing = publishing }

  -- a node that does not bar the publish was not enrolled above the stamp
  free_of : (m : ℕ) → fence_of s m ≤ stamp → IsFree (export h) m stamp
  free_of m low a loss fence has =
      let top = fence-top v (facts h) (export h) (export-rows v h b.legal) s (enrolment v h s b) m a loss fence has in omega (arith, top, low)

  -- the node at a position
  at_place : (info : FileInfo) → file_of s.tree key.fid ≡ Some info → (p m : ℕ) → IsPlace (facts h) key.fid p m → slice_get info.places p ≡ Some m
  at_place info there p m place =
      let same : info.places ≡ place.0 = the_places (sym (n.places key.fid info there) ∙ place.1) in ap (λ ps. slice_get ps p) same ∙ place.2
    where
      the_places : {a c : List ℕ} → Some a ≡ Some c → a ≡ c
      the_places q = cc

  accepted : (info : FileInfo) → file_of s.tree key.fid ≡ Some info → latest_of s.blocks key ≤ stamp → NoneBars s mask stamp 0 info.places
      → (size : ℕ) → size ≡ length_in ((facts h).wrote stamp) → IsExportStep v h (e.Publish by key stamp mask None) (after_publish s key (of_length stamp mask size))
  accepted info there low none size is =
      let x = e.Publish by key stamp mask None in
      let writer = publishing.writer in
      let still : (facts (x ∷ h)).wrote stamp ≡ (facts h).wrote stamp = (extends-more (x ∷ []) h).wrote stamp writer.0 writer.1.found ∙ sym writer.1.found in
      record {
        allowed = λ run. record {
          room = b.room;
          word = tt;
          row = record { publishable = publishable info there low; free = λ p m bit place. free_of m (none p m (first p bit) (at_place info there p m place)) };
        };
        tied = ap (λ (z : ExportState). after_publish z key (of_length stamp mask size)) (b.tied ∙ sym (same-export v x h b.legal))
            ∙ ap (λ (z : ℕ). after_publish (export_of v (facts (x ∷ h)) (export h)) key (of_length stamp mask z)) (is ∙ ap length_in (sym still));
      }
    where
      first : (p : ℕ) → HasBit mask p → HasBit mask (0 + p)
      first p bit = let same : p ≡ 0 + p = omega arith in subst (HasBit mask) same bit

  refused : (info : FileInfo) → file_of s.tree key.fid ≡ Some info → latest_of s.blocks key ≤ stamp → (r : Reply) → (g : Bars s mask stamp 0 info.places r)
      → IsExportStep v h (e.Publish by key stamp mask (Some (0 + g.place, fence_of s g.node))) s
  refused info there low r g = record {
    allowed = λ run. record {
      room = b.room;
      word = tt;
      row = record {
        publishable = publishable info there low;
        named = g.named;
        barred = (
          g.node,
          (info.places, n.places key.fid info there, subst (λ z. slice_get info.places z ≡ Some g.node) here g.at),
          record { enrolled = fence-has s (export h) (enrolment v h s b) g.node stamp g.above; top = fence-top v (facts h) (export h) (export-rows v h b.legal) s (enrolment v h s b) g.node },
        );
        above = g.above;
        least = λ p m less bit place. free_of m (g.least p m (omega (arith, less)) (subst (HasBit mask) (first p) bit) (at_place info there p m place));
      };
    };
    tied = b.tied ∙ sym (same-export v (e.Publish by key stamp mask (Some (0 + g.place, fence_of s g.node))) h b.legal);
  }
    where
      first : (p : ℕ) → p ≡ 0 + p
      first p = omega arith

      here : g.place ≡ 0 + g.place
      here = first g.place

  revoked : (info : FileInfo) → file_of s.tree key.fid ≡ Some info → stamp < latest_of s.blocks key → IsExportStep v h (e.Revoked by key stamp (latest_of s.blocks key)) s
  revoked info there less =
      let live = is-live (facts h) (export h) s n key.fid info there in
      let same = (tied-blocks v h s b key live).begun in
      record {
        allowed = λ run. record { room = b.room; word = tt; row = record { live = live; writer = publishing.writer; later_is = same; above = less } };
        tied = b.tied ∙ sym (same-export v (e.Revoked by key stamp (latest_of s.blocks key)) h b.legal);
      }

  publish_step : (size : ℕ) → size ≡ length_in ((facts h).wrote stamp) → (x : Event)
      → publish_event by (call.Publish key stamp mask size) (unwrap_or (no_publish s key stamp mask) reply.Accepted) ≡ Some x
      → IsExportStep v h x (option_map_or (λ why. s) (no_publish s key stamp mask) (after_publish s key (of_length stamp mask size)))
  publish_step size long x =
      publish_cases s key stamp mask (IsStep v h by s key stamp mask size x)
      (λ none is. subst (λ y. IsExportStep v h y s) (the_some _ x is)
      (denied v h by s b (asked.Publish key) denial.UnknownFile (not-live (facts h) (export h) s n key.fid none)))
      (λ info there less is. subst (λ y. IsExportStep v h y s) (the_some _ x is) (revoked info there less))
      (λ info there low. answered info there low (barred s mask stamp 0 info.places) refl)
    where
      answered : (info : FileInfo) → file_of s.tree key.fid ≡ Some info → latest_of s.blocks key ≤ stamp → (o : Option Reply) → barred s mask stamp 0 info.places ≡ o
          → IsStep v h by s key stamp mask size x o
      answered info there low None none is =
          subst (λ y. IsExportStep v h y (after_publish s key (of_length stamp mask size))) (the_some _ x is)
          (accepted info there low (barred-none s mask stamp 0 info.places none) size long)
      answered info there low (Some r) some is =
          let g = barred-some s mask stamp 0 info.places r some in
          subst (λ y. IsExportStep v h y s) (the_some _ x (sym (ap (λ z. publish_event by (call.Publish key stamp mask size) z) g.is) ∙ is))
          (refused info there low r g)

pub export-publish : (v : Volume) → IsNaming v → (key : Key) (stamp mask size : ℕ) → IsExportLawOf v (call.Publish key stamp mask size)
export-publish v naming key stamp mask size h by s x legal tied room proper is =
    let b : Before v h s = record { legal = legal; tied = tied; room = room } in
    publish_step v h by s b (named v naming h s b) key stamp mask proper.0 size proper.1 x is
