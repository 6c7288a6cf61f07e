use Rattle.std.proofs.Common.{◌≡◌, ◌∙◌, true, None, refl, sym, subst, arith}
use Rattle.std.proofs.lemmas.Result.{on_ok_weaker}
use Rattle.rz_link.specs.declared.Sent.TheVariants as sent
use Rattle.rz_core.specs.History.{of_actor}
use Rattle.rz_player.specs.Messages.{IsNotedAs}
use Rattle.rz_player.proofs.Fates.{loses-reply, loses-request, sent-as}
use Rattle.rz_events.specs.Volume.{Volume}
use Rattle.rz_script_words.specs.Limits.{has_node}
use Rattle.rz_play_laws.proofs.Scripts.{node-of}
use Rattle.rz_chronicle.specs.Kinds.{volume_in}
use Rattle.rz_threads_steps.proofs.Acts.{still-stopped}
use Rattle.rz_threads_steps.proofs.Messages.{not-through-replylost, not-through-requestlost}
use Rattle.rz_threads_steps.proofs.sending.message.Goals as goal

pub returns-then-node-eq0-clause-stopped : goal.returns-then-node-eq0-clause-stopped
returns-then-node-eq0-clause-stopped g c = λ number. still-stopped g.J.Naming.kind number c.args.pass.now c.args.machine.now

pub returns-in-Through-clause-lasts : goal.returns-in-Through-clause-lasts
returns-in-Through-clause-lasts g c = c.through.ensures.lasts

pub returns-in-Through-clause-lost : goal.returns-in-Through-clause-lost
returns-in-Through-clause-lost g c = (let same = c.through.ensures.quiet in let more = c.fate.ensures.lasting in omega (arith, same, more))

pub returns-in-Through-clause-sent : goal.returns-in-Through-clause-sent
returns-in-Through-clause-sent g c =
    on_ok_weaker c.through.result (λ (noted : IsNotedAs c.args.pass.now.actor c.args.node c.args.ask sent.Through (of_actor c.args.pass.now.actor c.args.pass.now.log) (of_actor c.args.pass.now.actor c.through.new.pass.log)).
    sent-as c.goes_by_link.result c.args.ask c.goes_by_link.ensures g.L.Link.says None c.args.pass.now.actor c.args.node c.args.link.now c.fate.new.link (of_actor c.args.pass.now.actor c.args.pass.now.log) (of_actor c.args.pass.now.actor c.through.new.pass.log) sent.Through c.in-Through.ensures.fared noted)
    c.through.ensures.noted

pub returns-in-Through-clause-unshown : goal.returns-in-Through-clause-unshown
returns-in-Through-clause-unshown g c = c.through.ensures.unshown

pub returns-in-Through-clause-acted : goal.returns-in-Through-clause-acted
returns-in-Through-clause-acted g c = c.through.ensures.acted

pub returns-in-Through-clause-stopped : goal.returns-in-Through-clause-stopped
returns-in-Through-clause-stopped g c = c.through.ensures.stopped

pub returns-in-ReplyLost-clause-lasts : goal.returns-in-ReplyLost-clause-lasts
returns-in-ReplyLost-clause-lasts g c = c.without_reply.ensures.lasts

pub returns-in-ReplyLost-clause-lost : goal.returns-in-ReplyLost-clause-lost
returns-in-ReplyLost-clause-lost g c = (let one = c.without_reply.ensures.one in let more = c.fate.ensures.risen refl (not-through-replylost c.fate.result c.in-ReplyLost.is) in omega (arith, one, more))

pub returns-in-ReplyLost-clause-sent : goal.returns-in-ReplyLost-clause-sent
returns-in-ReplyLost-clause-sent g c =
    on_ok_weaker c.without_reply.result (λ (noted : IsNotedAs c.args.pass.now.actor c.args.node c.args.ask sent.ReplyLost (of_actor c.args.pass.now.actor c.args.pass.now.log) (of_actor c.args.pass.now.actor c.without_reply.new.pass.log)).
    sent-as c.goes_by_link.result c.args.ask c.goes_by_link.ensures g.L.Link.says None c.args.pass.now.actor c.args.node c.args.link.now c.fate.new.link (of_actor c.args.pass.now.actor c.args.pass.now.log) (of_actor c.args.pass.now.actor c.without_reply.new.pass.log) sent.ReplyLost c.in-ReplyLost.ensures.fared noted)
    c.without_reply.ensures.noted

pub returns-in-ReplyLost-clause-unshown : goal.returns-in-ReplyLost-clause-unshown
returns-in-ReplyLost-clause-unshown g c = c.without_reply.ensures.unshown

pub returns-in-ReplyLost-clause-acted : goal.returns-in-ReplyLost-clause-acted
returns-in-ReplyLost-clause-acted g c = c.without_reply.ensures.acted

pub returns-in-ReplyLost-clause-stopped : goal.returns-in-ReplyLost-clause-stopped
returns-in-ReplyLost-clause-stopped g c = c.without_reply.ensures.stopped

pub without_reply-requires-clause-lossy : goal.without_reply-requires-clause-lossy
without_reply-requires-clause-lossy g c = loses-reply c.goes_by_link.result c.args.ask c.goes_by_link.ensures None c.in-ReplyLost.ensures.fared.said c.in-ReplyLost.ensures.fared.fate

pub returns-in-RequestLost-clause-lasts : goal.returns-in-RequestLost-clause-lasts
returns-in-RequestLost-clause-lasts g c = c.without_request.ensures.lasts

pub returns-in-RequestLost-clause-lost : goal.returns-in-RequestLost-clause-lost
returns-in-RequestLost-clause-lost g c = (let one = c.without_request.ensures.one in let more = c.fate.ensures.risen refl (not-through-requestlost c.fate.result c.in-RequestLost.is) in omega (arith, one, more))

pub returns-in-RequestLost-clause-sent : goal.returns-in-RequestLost-clause-sent
returns-in-RequestLost-clause-sent g c =
    on_ok_weaker c.without_request.result (λ (noted : IsNotedAs c.args.pass.now.actor c.args.node c.args.ask sent.RequestLost (of_actor c.args.pass.now.actor c.args.pass.now.log) (of_actor c.args.pass.now.actor c.without_request.new.pass.log)).
    sent-as c.goes_by_link.result c.args.ask c.goes_by_link.ensures g.L.Link.says None c.args.pass.now.actor c.args.node c.args.link.now c.fate.new.link (of_actor c.args.pass.now.actor c.args.pass.now.log) (of_actor c.args.pass.now.actor c.without_request.new.pass.log) sent.RequestLost c.in-RequestLost.ensures.fared noted)
    c.without_request.ensures.noted

pub returns-in-RequestLost-clause-unshown : goal.returns-in-RequestLost-clause-unshown
returns-in-RequestLost-clause-unshown g c = c.without_request.ensures.unshown

pub returns-in-RequestLost-clause-acted : goal.returns-in-RequestLost-clause-acted
returns-in-RequestLost-clause-acted g c = c.without_request.ensures.acted

pub returns-in-RequestLost-clause-stopped : goal.returns-in-RequestLost-clause-stopped
returns-in-RequestLost-clause-stopped g c = c.without_request.ensures.stopped

pub without_request-requires-clause-lossy : goal.without_request-requires-clause-lossy
without_request-requires-clause-lossy g c = loses-request c.goes_by_link.result c.args.ask c.goes_by_link.ensures None c.in-RequestLost.ensures.fared.said c.in-RequestLost.ensures.fared.fate

pub through-requires-clause-node : goal.through-requires-clause-node
through-requires-clause-node g c =
    node-of (volume_in g.J.Naming.kind) c.args.node (omega arith, omega arith, subst (λ (v : Volume). has_node v c.args.node ≡ true) c.requires.volume (sym c.is_in.ensures ∙ c.if-not-is_in.false))

pub without_reply-requires-clause-node : goal.without_reply-requires-clause-node
without_reply-requires-clause-node g c =
    node-of (volume_in g.J.Naming.kind) c.args.node (omega arith, omega arith, subst (λ (v : Volume). has_node v c.args.node ≡ true) c.requires.volume (sym c.is_in.ensures ∙ c.if-not-is_in.false))
