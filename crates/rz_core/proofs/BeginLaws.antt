-- A begin after a legal log.
use Rattle.std.proofs.Common.{ℕ, true, ◌≡◌, ◌≤◌, ◌<◌, ◌+◌, List, length, Option, Some, None, sym, ◌∙◌, ap, subst}
use Rattle.std.specs.Option.{option_map_or, option_or}
use Rattle.mj_angles.specs.Layout.{block_bytes_of}
use Rattle.rz_events.specs.Volume.{Volume}
use Rattle.rz_events.specs.declared.keys.Key.{Key}
use Rattle.rz_events.specs.declared.keys.Actor.{Actor}
use Rattle.rz_events.specs.declared.ends.Denial.{Denial}
use Rattle.rz_events.specs.declared.ends.Denial.TheVariants as denial
use Rattle.rz_events.specs.declared.export.Asked.TheVariants as asked
use Rattle.rz_events.specs.declared.export.Call.TheVariants as call
use Rattle.rz_events.specs.declared.export.Reply.TheVariants as reply
use Rattle.rz_events.specs.declared.events.Event.{Event}
use Rattle.rz_events.specs.declared.events.Event.TheVariants as e
use Rattle.rz_export_model.specs.Export.{Export as ExportState, unknown_file, too_far, no_look, no_begin, published_stamp, after_begin}
use Rattle.rz_export_model.specs.ExportEvents.{begin_event}
use Rattle.rz_core.specs.History.{facts}
use Rattle.rz_core.specs.ExportWord.{is_live}
use Rattle.rz_core.specs.Tied.{IsExportStep, IsExportLawOf}
use Rattle.rz_core.proofs.Stamps.{export}
use Rattle.rz_core.proofs.NodeSteps.{the_some}
use Rattle.rz_core.proofs.ExportSteps.{same-export}
use Rattle.rz_core.proofs.ExportCalls.{Before, denied, enrolment, left}
use Rattle.rz_core.proofs.BlockTies.{base-is}
use Rattle.rz_core.proofs.ExportLooks.{AreNamed, named, tied-blocks, not-live, is-live, look-cases}
use Rattle.rz_core.proofs.Naming.{naming}

begun : (v : Volume) (h : List Event) (by : Actor) (s : ExportState) → Before v h s → (key : Key) (text : List ℕ) → length text ≤ block_bytes_of v.layout
    → is_live (export h) key.fid ≡ true → key.block < 1048576 → IsExportStep v h (e.Begin by key (s.last + 1) (published_stamp s.blocks key) text) (after_begin s key)
begun v h by s b key text short live near = record {
  allowed = λ run. record {
    room = b.room;
    word = tt;
    row = record {
      live = live;
      block = near;
      short = short;
      next = ap (λ n. n + 1) (enrolment v h s b).last;
      from = base-is (facts h) (export h) key s.blocks (tied-blocks v h s b key live);
    };
  };
  tied = ap (λ (z : ExportState). after_begin z key) (b.tied ∙ sym (same-export v (e.Begin by key (s.last + 1) (published_stamp s.blocks key) text) h b.legal));
}

-- a begin is denied as a look is, since a number is left
begins-as-look : (v : Volume) (h : List Event) (s : ExportState) → Before v h s → (key : Key) → no_look s key ≡ no_begin s key
begins-as-look v h s b key = ap (λ (o : Option Denial). option_or (unknown_file s key) (option_or (too_far key) (option_or o None))) (sym (left v h s b))

-- what a begin comes to, where it is denied so
abbrev Goes : Volume → List Event → Actor → ExportState → Key → List ℕ → Event → Option Denial → Type 0
Goes v h by s key text x o =
    begin_event by (call.Begin key text) (option_map_or reply.Denied o (reply.Begun (s.last + 1) (published_stamp s.blocks key))) ≡ Some x
    → IsExportStep v h x (option_map_or (λ why. s) o (after_begin s key))

begin_step : (v : Volume) (h : List Event) (by : Actor) (s : ExportState) → Before v h s → AreNamed (facts h) (export h) s → (key : Key) (text : List ℕ) → length text ≤ block_bytes_of v.layout → (x : Event)
    → Goes v h by s key text x (no_begin s key)
begin_step v h by s b n key text short x =
    subst (Goes v h by s key text x) (begins-as-look v h s b key)
    (look-cases s key (Goes v h by s key text x)
    (λ none is. subst (λ y. IsExportStep v h y s) (the_some _ x is)
    (denied v h by s b (asked.Begin key) denial.UnknownFile (not-live (facts h) (export h) s n key.fid none)))
    (λ info there far is. subst (λ y. IsExportStep v h y s) (the_some _ x is)
    (denied v h by s b (asked.Begin key) denial.BlockTooFar (is-live (facts h) (export h) s n key.fid info there, far)))
    (λ info there near is. subst (λ y. IsExportStep v h y (after_begin s key)) (the_some _ x is)
    (begun v h by s b key text short (is-live (facts h) (export h) s n key.fid info there) near)))

pub export-begin : (v : Volume) (key : Key) (text : List ℕ) → IsExportLawOf v (call.Begin key text)
export-begin v key text h by s x legal tied room proper is =
    let b : Before v h s = record { legal = legal; tied = tied; room = room } in
    begin_step v h by s b (named v (naming v) h s b) key text proper x is
