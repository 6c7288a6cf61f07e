-- What a line of a script and the link say of a message is what a turn may make of it.
use Rattle.std.proofs.Common.{◌≡◌, ℕ, Bool, true, false, List, Option, Some, None, refl, sym, subst}
use Rattle.rz_link.specs.declared.Sent.{Sent}
use Rattle.rz_link.specs.declared.Sent.TheVariants.{Through, RequestLost, ReplyLost}
use Rattle.rz_link.specs.Fates.{fate_of, HasFared}
use Rattle.rz_events.specs.declared.keys.Actor.{Actor}
use Rattle.rz_events.specs.declared.nodes.NodeAsk.{NodeAsk}
use Rattle.rz_events.specs.declared.events.Event.{Event}
use Rattle.rz_operation_model.specs.Turns.{goes_by_link}
use Rattle.rz_play.specs.Turns.{IsThrough, IsLost}
use Rattle.rz_player.specs.Messages.{IsNotedAs, IsSent}

module _ (by : Bool) (question : NodeAsk) (goes : by ≡ goes_by_link question) where
  pub comes-through : (miss : Option Bool) (said : Sent) → Through ≡ fate_of by miss said → IsThrough miss question
  comes-through None said is = tt
  comes-through (Some planned) said is = go by goes is
    where
      go : (b : Bool) → b ≡ goes_by_link question → Through ≡ fate_of b (Some planned) said → goes_by_link question ≡ false
      go false gone so = sym gone
      go true gone so = lost planned so
        where
          lost : (p : Bool) → Through ≡ fate_of true (Some p) said → goes_by_link question ≡ false
          lost true so_ = cc
          lost false so_ = cc

  pub loses-reply : (miss : Option Bool) (said : Sent) → ReplyLost ≡ fate_of by miss said → IsLost miss question true
  loses-reply miss said is = go by miss goes is
    where
      go : (b : Bool) (m : Option Bool) → b ≡ goes_by_link question → ReplyLost ≡ fate_of b m said → IsLost m question true
      go false m gone so = cc
      go true None gone so = sym gone
      go true (Some true) gone so = (sym gone, refl)
      go true (Some false) gone so = cc

  pub loses-request : (miss : Option Bool) (said : Sent) → RequestLost ≡ fate_of by miss said → IsLost miss question false
  loses-request miss said is = go by miss goes is
    where
      go : (b : Bool) (m : Option Bool) → b ≡ goes_by_link question → RequestLost ≡ fate_of b m said → IsLost m question false
      go false m gone so = cc
      go true None gone so = sym gone
      go true (Some true) gone so = cc
      go true (Some false) gone so = (sym gone, refl)

  pub sent-as : {L : Type 0} (says : L → ℕ → Sent → L → Type 0) (miss : Option Bool) (actor : Actor) (n : ℕ) (link new_link : L) (old new : List Event) (sent : Sent)
      → HasFared says by miss n link sent new_link → IsNotedAs actor n question sent old new → IsSent says miss actor n question link new_link old new
  sent-as says miss actor n link new_link old new sent fared noted =
      record { sent = sent; fared = subst (λ (b : Bool). HasFared says b miss n link sent new_link) goes fared; noted = noted }
