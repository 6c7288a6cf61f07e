use Rattle.std.proofs.Common.{◌≡◌, ◌&&◌, ◌==◌, ℕ, not, List, ap, sym, ◌∙◌, subst}
use Rattle.rz_events.specs.declared.keys.Key.{Key}
use Rattle.rz_blocks.specs.Marks.{is_marked, has_room}
use Rattle.rz_export_model.specs.Export.{Blocks}
use Rattle.rz_export.specs.Kept.{is_place, AreMarked, HaveRoom}
use Rattle.rz_export.proofs.Marked.{marked-gone, room-gone}
use Rattle.rz_export.proofs.Released.{settled-some, settled-none}
use Rattle.rz_export.proofs.releases.settle.Goals as goal

pub returns-in_default-clause-blocks : goal.returns-in_default-clause-blocks
returns-in_default-clause-blocks c = settled-none c.args.blocks.now c.args.reply.now (sym c.gone_of.ensures ∙ c.in_default.is)

pub returns-clause-blocks : goal.returns-clause-blocks
returns-clause-blocks c = c.release.ensures.blocks ∙ settled-some c.args.blocks.now c.args.reply.now c.in-Some.info (sym c.gone_of.ensures ∙ c.in-Some.is)

pub returns-clause-counted : goal.returns-clause-counted
returns-clause-counted c = λ t lay all. c.release.ensures.counted t (lay c.in-Some.info (sym c.gone_of.ensures ∙ c.in-Some.is)) all

pub returns-clause-marked : goal.returns-clause-marked
returns-clause-marked c =
    let info = c.in-Some.info in
    let old = c.args.listed.now in
    let new = c.clear.new.listed in
    let places : (l : ℕ) (q : Key) → is_marked new l q ≡ (not (is_place l info.places && (q.fid == info.fid)) && is_marked old l q)
    = λ l q. c.clear.ensures.marks l q ∙ ap (λ (ps : List ℕ). not (is_place l ps && (q.fid == info.fid)) && is_marked old l q) c.list.ensures.value in
    λ t lay marked.
    subst (λ (m : Blocks). AreMarked t m new) (sym c.release.ensures.blocks)
    (marked-gone c.args.blocks.now old new info.places info.fid places t (lay info (sym c.gone_of.ensures ∙ c.in-Some.is)) marked)

pub returns-clause-room : goal.returns-clause-room
returns-clause-room c =
    let info = c.in-Some.info in
    let old = c.args.listed.now in
    let new = c.clear.new.listed in
    let places : (l : ℕ) (q : Key) → has_room new l q ≡ (not (is_place l info.places && (q.fid == info.fid)) && has_room old l q)
    = λ l q. c.clear.ensures.room l q ∙ ap (λ (ps : List ℕ). not (is_place l ps && (q.fid == info.fid)) && has_room old l q) c.list.ensures.value in
    λ t room.
    subst (λ (m : Blocks). HaveRoom t m new) (sym c.release.ensures.blocks)
    (room-gone c.args.blocks.now old new info.places info.fid places t room)
