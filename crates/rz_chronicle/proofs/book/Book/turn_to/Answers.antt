use Rattle.std.proofs.Common.{◌≡◌, ◌∙◌, Option, sym, ap, subst}
use Rattle.rz_events.specs.declared.events.Word.{Word}
use Rattle.rz_events.specs.declared.events.Word.TheVariants.{Own}
use Rattle.rz_chronicle.specs.Keys.{word_key, actor_key, count_at, moves_of, sids_of, IsOneOf}
use Rattle.rz_chronicle.specs.Kinds.{volume_in}
use Rattle.rz_chronicle.specs.Holds.{keys_in}
use Rattle.rz_chronicle.specs.Rules.{PassView}
use Rattle.rz_chronicle.proofs.Histories.{count_history}
use Rattle.rz_chronicle.proofs.TokenLaws.{member-low, own-other}
use Rattle.rz_chronicle.proofs.book.Book.turn_to.Goals as goal

pub load-moved-requires-clause-owner : goal.load-moved-requires-clause-owner
load-moved-requires-clause-owner g c =
    let sids = sids_of (volume_in g.J.Naming.kind) in
    (Own c.args.actor, c.place_of.ensures.owner sids, member-low c.args.actor c.requires.member)

pub invariant_of-pass : goal.invariant_of-pass
invariant_of-pass g c =
    let i = c.pass.invariant in let n = g.J.Naming in
    let sids = sids_of (volume_in n.kind) in
    let keys : c.args.pass.now.keys ≡ keys_in c.pass.inside.tokens = sym (ap (λ (v : PassView). v.keys) c.pass.view_is ∙ c.load-moved.ensures.same.1) in
    let moved : c.load-moved.result ≡ count_at (word_key (Own c.args.actor)) c.pass.inside.seen.log =
    c.load-moved.ensures.count
    ∙ ap (λ (o : Option Word). moves_of o c.load-moved.new.pass.log) (c.place_of.ensures.owner sids)
    ∙ ap (λ (v : PassView). count_at (word_key (Own c.args.actor)) v.log) (sym c.pass.view_is)
    ∙ count_history (word_key (Own c.args.actor)) c.pass.inside.seen.log in (
      i.0,
      i.1,
      own-other n.counters n.copy n.kind c.pass.inside.seen.log c.pass.inside.actor c.args.actor c.pass.inside.tokens i.2
          (subst (IsOneOf (word_key (Own c.args.actor))) keys c.requires.held.0)
          (subst (IsOneOf (actor_key c.args.actor)) keys c.requires.held.1),
      moved,
      c.requires.member,
      i.5,
      i.6,
      i.7,
    )
