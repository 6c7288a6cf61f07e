-- How a message to a node fares.
use Rattle.std.specs.Prelude.{ℕ, Bool, true, false, ◌≡◌, Option, Some, None}
use Rattle.rz_link.specs.declared.Sent.{Sent}
use Rattle.rz_link.specs.declared.Sent.TheVariants.{Through, RequestLost, ReplyLost}

-- a message that does not go by the link comes through; one that does fares as is planned for it, which says whether the
-- reply or the request is lost, or else as the link says
abbrev pub fate_of : (by_link : Bool) → (planned : Option Bool) → (said : Sent) → Sent
fate_of false planned said = Through
fate_of true (Some true) said = ReplyLost
fate_of true (Some false) said = RequestLost
fate_of true None said = said

-- the link is asked where the message goes by it and nothing is planned
abbrev pub is_asked : (by_link : Bool) → (planned : Option Bool) → Bool
is_asked true None = true
is_asked by_link planned = false

-- The link says this of the message to node n, and is new thereafter; or it is not asked, and stays. `says` is what a link
-- may say.
abbrev pub IsAsked : {L : Type 0} → (L → ℕ → Sent → L → Type 0) → (asked : Bool) → (n : ℕ) → L → Sent → L → Type 0
IsAsked says true n link said new = says link n said new
IsAsked says false n link said new = new ≡ link

-- A message to node n fared so, and the link was asked once where it is asked, and else not at all.
pub record HasFared {L : Type 0} (says : L → ℕ → Sent → L → Type 0) (by_link : Bool) (planned : Option Bool) (n : ℕ) (link : L) (sent : Sent) (new : L) : Type 0 where
  pub said : Sent
  pub asked : IsAsked says (is_asked by_link planned) n link said new
  pub fate : sent ≡ fate_of by_link planned said
