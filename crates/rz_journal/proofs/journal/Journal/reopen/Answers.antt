-- What was read is what the disk has.
use Rattle.std.proofs.Common.{◌≡◌, ◌⊎◌, ℕ, ◌<◌, ◌≤◌, List, length, sym, subst, ap, ◌∙◌}
use Rattle.rz_journal.specs.declared.rebuilding.JournalFault.{JournalFault}
use Rattle.rz_journal.specs.declared.rebuilding.JournalFault.TheVariants.{NoMemory, DiskFault}
use Rattle.rz_journal.specs.Opening.{MakeExport, IsReopened, StopsAtEntry, IsJournalRefused, fault_of}
use Rattle.rz_journal.proofs.Reopened.{some_there, room_there, reopened, stopped, refused, ready_there, rebuilt_volume, after_calls}
use Rattle.rz_journal.proofs.Exact.{exact}
use Rattle.rz_journal.proofs.WholeTexts.{makes_whole}
use Rattle.rz_journal.proofs.journal.Journal.reopen.Goals as goal

pub rebuild-requires : goal.rebuild-requires
rebuild-requires g c =
    let h = c.in-Ok.half in
    subst (λ (b : List ℕ). 1 ≤ length b) (sym c.bytes.ensures) (some_there g.D.Disk.tells (g.D.Disk.text h.disk) (g.D.Disk.image h.disk) h.half h.bytes.items c.in-Ok.ensures.open c.args.volume)

pub into_entries-requires-clause-room : goal.into_entries-requires-clause-room
into_entries-requires-clause-room g c =
    let h = c.in-Ok.half in
    let used = c.in-Ok-rebuild.used in
    room_there g.D.Disk.tells (g.D.Disk.text h.disk) (g.D.Disk.image h.disk) h.half h.bytes.items c.in-Ok.ensures.open c.args.volume used
    (subst (λ (b : List ℕ). used < length b) c.bytes.ensures c.in-Ok-rebuild.ensures.used)

pub invariant_of-result : goal.invariant_of-result
invariant_of-result g c = λ _.
    let h = c.in-Ok.half in
    let volume = c.args.volume in
    let s = c.in-Ok-rebuild.export in
    let used = c.in-Ok-rebuild.used in
    let there = c.into_entries.result in
    let rebuilt = subst (λ (b : List ℕ). MakeExport volume b used s) c.bytes.ensures c.in-Ok-rebuild.ensures.rebuilt in
    ready_there g.D.Disk.tells (g.D.Disk.text there.disk) (g.D.Disk.image there.disk) there.half there.used s volume c.into_entries.ensures.open
    (rebuilt_volume volume h.bytes.items used s rebuilt)
    (λ told.
    let same = reopened g.D.Disk.tells (g.D.Disk.text h.disk) (g.D.Disk.image h.disk) h.half h.bytes.items c.in-Ok.ensures.open volume used s rebuilt told in
    subst (λ (t : List ℕ). IsReopened volume t there.used s) (sym (ap g.D.Disk.text c.into_entries.ensures.disk))
    (subst (λ (n : ℕ). IsReopened volume (g.D.Disk.text h.disk) n s) (sym c.into_entries.ensures.used) same))
    (makes_whole c.texts_plain.ensures c.new_is_whole.ensures c.stays_whole.ensures c.built.ensures volume rebuilt.so_far.0 rebuilt.entries s c.rules.ensures rebuilt.so_far.2 rebuilt.makes)

pub returns-in-Ok-rebuild-clause-volume : goal.returns-in-Ok-rebuild-clause-volume
returns-in-Ok-rebuild-clause-volume g c =
    rebuilt_volume c.args.volume c.bytes.result.now c.in-Ok-rebuild.used c.in-Ok-rebuild.export c.in-Ok-rebuild.ensures.rebuilt

pub returns-in-Ok-rebuild-clause-sized : goal.returns-in-Ok-rebuild-clause-sized
returns-in-Ok-rebuild-clause-sized g c = ap (λ (t : List ℕ). length t) (sym c.in-Ok.ensures.text) ∙ c.in-Ok.ensures.open.size

pub returns-in-Ok-rebuild-clause-calls : goal.returns-in-Ok-rebuild-clause-calls
returns-in-Ok-rebuild-clause-calls g c = λ told calls is.
    let h = c.in-Ok.half in
    let volume = c.args.volume in
    let s = c.in-Ok-rebuild.export in
    let used = c.in-Ok-rebuild.used in
    let rebuilt = subst (λ (b : List ℕ). MakeExport volume b used s) c.bytes.ensures c.in-Ok-rebuild.ensures.rebuilt in
    let there = reopened g.D.Disk.tells (g.D.Disk.text h.disk) (g.D.Disk.image h.disk) h.half h.bytes.items c.in-Ok.ensures.open volume used s rebuilt told in
    let room = room_there g.D.Disk.tells (g.D.Disk.text h.disk) (g.D.Disk.image h.disk) h.half h.bytes.items c.in-Ok.ensures.open volume used
    (subst (λ (b : List ℕ). used < length b) c.bytes.ensures c.in-Ok-rebuild.ensures.used) in
    after_calls volume (g.D.Disk.text c.args.disk) used s (rebuilt_volume volume h.bytes.items used s rebuilt) room
    (subst (λ (t : List ℕ). IsReopened volume t used s) c.in-Ok.ensures.text there) calls is

pub returns-in-Err-clause-exact : goal.returns-in-Err-clause-exact
returns-in-Err-clause-exact g c = λ told calls is.
    let text = g.D.Disk.text c.args.disk in
    let fault = c.in-Err.fault in
    subst (λ (f : JournalFault). (f ≡ NoMemory) ⊎ (f ≡ DiskFault)) (sym c.refused.ensures)
    (exact g.D.Disk.tells c.args.volume text (fault_of fault) (refused g.D.Disk.tells c.args.volume text fault c.in-Err.ensures.refused) told calls is)

pub returns-in-Err-rebuild-clause-exact : goal.returns-in-Err-rebuild-clause-exact
returns-in-Err-rebuild-clause-exact g c = λ told calls is.
    let h = c.in-Ok.half in
    let volume = c.args.volume in
    let fault = c.in-Err-rebuild.fault in
    let why = subst (λ (b : List ℕ). StopsAtEntry volume b fault) c.bytes.ensures c.in-Err-rebuild.ensures.stopped in
    let there = stopped g.D.Disk.tells (g.D.Disk.text h.disk) (g.D.Disk.image h.disk) h.half h.bytes.items c.in-Ok.ensures.open volume fault why in
    exact g.D.Disk.tells volume (g.D.Disk.text c.args.disk) fault (subst (λ (t : List ℕ). IsJournalRefused g.D.Disk.tells volume t fault) c.in-Ok.ensures.text there) told calls is
