use Rattle.std.proofs.Common.{◌≡◌, ◌+◌, ◌<◌, ap, sym, subst, ◌∙◌, arith, is_some, true, Some, None, List, ℕ}
use Rattle.std.specs.Option.{option_map}
use Rattle.std.specs.FinMap as maps
use Rattle.rz_events.specs.declared.files.FileInfo.{FileInfo}
use Rattle.rz_export_model.specs.Tree.{file_of}
use Rattle.rz_export_model.specs.Export.{Export, Blocks, begun, latest_of, after_begin, no_begin}
use Rattle.rz_export.specs.Kept.{export_of, lies_at, AreRoomy, IsKept}
use Rattle.rz_export.proofs.Replies.{may-begin}
use Rattle.rz_export.proofs.States.{some-prepared, latest-prepared, begun-prepared, latest-low, roomy-either, kept-room, kept-begin}
use Rattle.rz_export.proofs.export.Export.start.Goals as goal

pub overflow_add-self : goal.overflow_add-self
overflow_add-self c =
    let s = c.self.inside in
    let may = may-begin (export_of s.volume s.tree s.blocks s.nodes.items s.last) c.args.key (subst (λ (x : Export). no_begin x c.args.key ≡ None) (sym c.self.view_is) c.requires.may) in
    let room = may.room in omega (arith, room)

pub begin-requires-clause-prepared : goal.begin-requires-clause-prepared
begin-requires-clause-prepared c =
    subst (λ (m : Blocks). is_some (maps.get m c.args.key) ≡ true) (sym c.in_ok-prepare.ensures.ok) (some-prepared c.self.inside.blocks c.args.key)

pub begin-requires-clause-newer : goal.begin-requires-clause-newer
begin-requires-clause-newer c =
    let s = c.self.inside in
    let low = latest-low s.volume s.tree s.blocks s.nodes.items s.listed s.last c.self.invariant c.args.key in
    let same = latest-prepared s.blocks c.args.key in
    subst (λ (m : Blocks). latest_of m c.args.key < s.last + 1) (sym c.in_ok-prepare.ensures.ok) (omega (arith, low, same))

pub invariant_of-self : goal.invariant_of-self
invariant_of-self c =
    let s = c.self.inside in
    subst (λ (m : Blocks). IsKept s.volume s.tree m s.nodes.items c.prepare.new.listed s.last) (sym c.in_err-prepare.ensures.err)
    (kept-room s.volume s.tree s.blocks s.nodes.items s.listed s.last c.self.invariant c.prepare.new.listed
    (record { marks = c.in_err-prepare.ensures.marks; kept = c.in_err-prepare.ensures.kept }))

pub invariant_of-self-2 : goal.invariant_of-self-2
invariant_of-self-2 c =
    let s = c.self.inside in
    let key = c.args.key in
    let info = c.args.info.now in
    let more = c.prepare.new.listed in
    let may = may-begin (export_of s.volume s.tree s.blocks s.nodes.items s.last) key (subst (λ (x : Export). no_begin x key ≡ None) (sym c.self.view_is) c.requires.may) in
    let lies : lies_at s.tree key.fid ≡ Some info.places = ap (option_map (λ (i : FileInfo). i.places)) (ap (λ (x : Export). file_of x.tree key.fid) c.self.view_is ∙ c.requires.live) in
    let had = kept-room s.volume s.tree s.blocks s.nodes.items s.listed s.last c.self.invariant more
    (record { marks = c.in_ok-prepare.ensures.marks; kept = c.in_ok-prepare.ensures.kept }) in
    let new : maps.get s.blocks key ≡ None → AreRoomy more info.places key = λ none. subst (λ (ps : List ℕ). AreRoomy more ps key) c.list.ensures.value (c.in_ok-prepare.ensures.room none) in
    let roomy : AreRoomy more info.places key = roomy-either s.tree s.blocks more key info.places lies had.room new in
    let is = c.begin.ensures ∙ ap (λ m. begun m key (s.last + 1)) c.in_ok-prepare.ensures.ok ∙ begun-prepared s.blocks key (s.last + 1) in
    subst (λ (m : Blocks). IsKept s.volume s.tree m s.nodes.items more (s.last + 1)) (sym is)
    (kept-begin s.volume s.tree s.blocks s.nodes.items more s.last had key info.places lies roomy may.live may.near)

pub returns-clause-number : goal.returns-clause-number
returns-clause-number c = ap (λ (x : Export). x.last + 1) c.self.view_is

pub returns-clause-ok : goal.returns-clause-ok
returns-clause-ok c =
    let s = c.self.inside in
    let is = c.begin.ensures ∙ ap (λ m. begun m c.args.key (s.last + 1)) c.in_ok-prepare.ensures.ok ∙ begun-prepared s.blocks c.args.key (s.last + 1) in
    ap (λ (m : Blocks). export_of s.volume s.tree m s.nodes.items (s.last + 1)) is ∙ ap (λ (x : Export). after_begin x c.args.key) c.self.view_is
