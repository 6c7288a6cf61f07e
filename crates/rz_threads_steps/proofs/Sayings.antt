-- Words of an actor's own that come next.
use Rattle.std.proofs.Common.{◌≡◌, ℕ, ◌+◌, ◌<◌, ◌^◌, List, [], ◌∷◌, ◌++◌, refl, sym, ◌∙◌, ap, subst}
use Rattle.rz_events.specs.Volume.{Volume}
use Rattle.rz_events.specs.declared.keys.Actor.{Actor}
use Rattle.rz_events.specs.declared.events.Word.{Word}
use Rattle.rz_events.specs.declared.events.Word.TheVariants.{Own}
use Rattle.rz_events.specs.declared.events.Event.{Event}
use Rattle.rz_events.specs.Events.{by_of, word_of}
use Rattle.rz_operation_model.specs.Steps.{Noted}
use Rattle.rz_operation_model.specs.Ask.{Ask, Say, Saying, SayGot, SayGave, SayLeft, SayDone, ask_of}
use Rattle.rz_operation_model.specs.Turns.{said_event, IsStep}
use Rattle.rz_operation.specs.Machine.{Machine, text_of}
use Rattle.rz_core.specs.History.{Facts, facts, of_word, of_actor}
use Rattle.rz_core.specs.Legal.{Row, Allowed, HasWord, IsAllowedIn}
use Rattle.rz_play.specs.Turns.{text_said}
use Rattle.rz_play_laws.specs.Own.{IsProper}
use Rattle.rz_block_laws.specs.ActingLaws.{IsAskingLaw, IsSayingLaw}
use Rattle.rz_chronicle.specs.Keys.{count_at, word_key}
use Rattle.rz_chronicle.specs.Kinds.{Fits, HasEarlierLog, volume_in}
use Rattle.rz_chronicle.specs.Laws.{IsOneRule, IsRoomy}
use Rattle.rz_chronicle.specs.Rules.{PassView}
use Rattle.rz_shared_locked.specs.Adding.{MayBeNext}
use Rattle.rz_threads_steps.specs.Acted.{IsWorkRight}
use Rattle.rz_threads_steps.specs.Saying.{IsSayingDone}

-- an event of an actor's own word is allowed where its row says so
pub own-may : IsRoomy → (kind : List ℕ) (earlier h : List Event) (by : Actor) (x : Event) → HasEarlierLog kind earlier → by_of x ≡ by → word_of x ≡ Own by → count_at (word_key (Own by)) h + 1 < 2 ^ 62
    → Row (volume_in kind) (facts (h ++ earlier)) (of_word (Own by) (h ++ earlier)) (of_actor by (h ++ earlier)) (of_actor by h) x → IsAllowedIn (volume_in kind) (h ++ earlier) (of_actor (by_of x) h) x
own-may roomy kind earlier h by x has by_is word_is room row =
    let v = volume_in kind in
    let g = h ++ earlier in
    subst (λ (k : Word). Allowed v (facts g) (of_word k g) (of_actor (by_of x) g) (of_actor (by_of x) h) x) (sym word_is)
    (subst (λ (a : Actor). Allowed v (facts g) (of_word (Own by) g) (of_actor a g) (of_actor a h) x) (sym by_is)
    (record { room = roomy kind (Own by) h earlier has room; word = subst (HasWord v) (sym word_is) tt; row = row }))

pub said-by : (by : Actor) (number : ℕ) (text : List ℕ) (said : Saying) → by_of (said_event by number text said) ≡ by
said-by by number text (SayGot key part mark) = refl
said-by by number text (SayGave key part end) = refl
said-by by number text (SayLeft key why) = refl
said-by by number text (SayDone answer) = refl

pub said-word : (by : Actor) (number : ℕ) (text : List ℕ) (said : Saying) → word_of (said_event by number text said) ≡ Own by
said-word by number text (SayGot key part mark) = refl
said-word by number text (SayGave key part end) = refl
said-word by number text (SayLeft key why) = refl
said-word by number text (SayDone answer) = refl

-- the row of a word of the actor's own reads no other word
said-row : (v : Volume) (f : Facts) (o w run : List Event) (by : Actor) (number : ℕ) (text : List ℕ) (said : Saying) → Row v f [] o run (said_event by number text said) → Row v f w o run (said_event by number text said)
said-row v f o w run by number text (SayGot key part mark) row = row
said-row v f o w run by number text (SayGave key part end) row = row
said-row v f o w run by number text (SayLeft key why) row = row
said-row v f o w run by number text (SayDone answer) row = row

module _ (kind : List ℕ) (p : PassView) (number : ℕ) (m m' : Machine) (x : Event) (said : IsSayingDone p.actor number m m' x) where
  pub its-by : by_of x ≡ p.actor
  its-by = ap by_of said.event ∙ said-by p.actor number (text_of m) said.saying

  pub its-word : word_of x ≡ Own p.actor
  its-word = ap word_of said.event ∙ said-word p.actor number (text_of m) said.saying

  -- what an operation says may come next
  pub say-may : IsRoomy → (earlier : List Event) → IsAskingLaw (volume_in kind) → IsSayingLaw (volume_in kind) → IsOneRule → HasEarlierLog kind earlier → Fits kind p.log → IsWorkRight kind earlier p number m
      → count_at (word_key (Own p.actor)) p.log + 1 < 2 ^ 62 → MayBeNext kind earlier p.log x
  say-may roomy earlier asks says rule has fits right room keeps =
      let v = volume_in kind in
      let g = p.log ++ earlier in
      let f = facts g in
      let o = of_actor p.actor g in
      let run = of_actor p.actor p.log in
      let text : text_of m ≡ text_said f said.saying = says earlier p.log p.actor number m said.saying (rule.legal kind earlier p.log has keeps fits) (right keeps) said.asks in
      let proper : IsProper v f o run p.actor number (Say said.saying) = asks earlier p.log p.actor number m (Say said.saying) (right keeps) said.asks in
      let is : x ≡ said_event p.actor number (text_said f said.saying) said.saying = said.event ∙ ap (λ (t : List ℕ). said_event p.actor number t said.saying) text in
      own-may roomy kind earlier p.log p.actor x has its-by its-word room
      (subst (λ (y : Event). Row v f (of_word (Own p.actor) g) o run y) (sym is) (said-row v f o (of_word (Own p.actor) g) run p.actor number (text_said f said.saying) said.saying proper))

  pub say-step : IsStep p.actor number (ask_of m.layout m.work) (Noted (text_of m)) (x ∷ [])
  say-step = subst (λ (a : Ask). IsStep p.actor number a (Noted (text_of m)) (x ∷ [])) (sym said.asks) (text_of m, refl, ap (λ (y : Event). y ∷ []) said.event)

-- the actor of a pass says it
pub at-actor : (a by : Actor) (number : ℕ) (m m' : Machine) (x : Event) → a ≡ by → IsSayingDone a number m m' x → IsSayingDone by number m m' x
at-actor a by number m m' x is said = subst (λ (b : Actor). IsSayingDone b number m m' x) is said
