-- What lasts while others act, and what may be added, by the laws of the log.
use Rattle.std.proofs.Common.{◌≡◌, ◌<◌, ◌-◌, ◌^◌, ℕ, List, [], ◌∷◌, ◌++◌, map, Option, Some, None, length, refl, sym, ap, ◌∙◌, subst, arith}
use Rattle.std.specs.Option.{option_map}
use Rattle.std.specs.FinMap as maps
use Rattle.rz_events.specs.Keys.{key_cmp}
use Rattle.rz_events.specs.Volume.{Volume}
use Rattle.rz_events.specs.declared.keys.Actor.{Actor}
use Rattle.rz_events.specs.declared.records.Head.{Head}
use Rattle.rz_events.specs.declared.records.Held.{Held}
use Rattle.rz_events.specs.declared.nodes.Phase.TheVariants.{Lost}
use Rattle.rz_events.specs.declared.nodes.FetchAnswer.TheVariants as fetch
use Rattle.rz_events.specs.declared.nodes.NodeAsk.{NodeAsk}
use Rattle.rz_events.specs.declared.nodes.NodeAsk.TheVariants as ask
use Rattle.rz_events.specs.declared.nodes.NodeAnswer.TheVariants as answer
use Rattle.rz_events.specs.declared.events.Word.{Word}
use Rattle.rz_events.specs.declared.events.Word.TheVariants.{Node}
use Rattle.rz_events.specs.declared.events.Event.{Event}
use Rattle.rz_events.specs.declared.events.Event.TheVariants as e
use Rattle.rz_events.specs.Events.{by_of}
use Rattle.rz_node_model.specs.Records.{listed}
use Rattle.rz_node_model.specs.States.{NodeState}
use Rattle.rz_node_model.specs.Afterwards.{after_answer}
use Rattle.rz_node_model.proofs.RecordLaws.{whole-empty}
use Rattle.rz_core.specs.History.{Begun, facts, of_word, of_actor}
use Rattle.rz_core.specs.NodeWord.{phase, undecided}
use Rattle.rz_core.specs.Legal.{IsLegalAfter}
use Rattle.rz_core.specs.HeldRecords.{record_on}
use Rattle.rz_core.specs.Longer.{IsNextRun, IsPermanent}
use Rattle.rz_core.specs.Tied.{record_in, pending_in, IsNode, IsProperAsk, IsNodeStep, IsNodeLaw}
use Rattle.rz_core.proofs.NodeLaws.{rows, lost-empty}
use Rattle.rz_log_laws.specs.Beside.{IsNodeKept, IsAskKept, IsArming}
use Rattle.rz_node_laws.specs.Records.{IsRecordOf, HandsRecord}
use Rattle.rz_chronicle.specs.Keys.{IsLater, events_at, word_key, actor_key}
use Rattle.rz_shared_locked.specs.Laws.{IsAskerKept, IsReadKept, IsAnswerLaw, IsArmLaw, IsLostLaw}
use Rattle.rz_shared_locked.proofs.Behind.{word-behind, actor-behind, later-behind}

abbrev pub AreWordsKept : Type 0
AreWordsKept = (w : Word) (h g : List Event) → events_at (word_key w) h ≡ events_at (word_key w) g → of_word w h ≡ of_word w g

abbrev pub AreActorsKept : Type 0
AreActorsKept = (a : Actor) (h g : List Event) → events_at (actor_key a) h ≡ events_at (actor_key a) g → of_actor a h ≡ of_actor a g

abbrev pub ArePermanent : Type 0
ArePermanent = (h more : List Event) → IsPermanent h more

-- a state that is tied stays so
pub node-later : (v : Volume) → IsNextRun v → IsNodeKept v → AreWordsKept → (earlier old new : List Event) (n : ℕ) (s : NodeState) → IsLegalAfter v earlier old → IsLater old new
    → events_at (word_key (Node n)) new ≡ events_at (word_key (Node n)) old → IsNode (facts (old ++ earlier)) (of_word (Node n) (old ++ earlier)) s
    → IsNode (facts (new ++ earlier)) (of_word (Node n) (new ++ earlier)) s
node-later v next kept words earlier old new n s legal later same tied =
    let is = later-behind old new earlier later in
    let it : of_word (Node n) (later.0 ++ (old ++ earlier)) ≡ of_word (Node n) (old ++ earlier) =
    subst (λ (h : List Event). of_word (Node n) h ≡ of_word (Node n) (old ++ earlier)) is (word-behind (Node n) earlier new old (words (Node n) new old same)) in
    subst (λ (h : List Event). IsNode (facts h) (of_word (Node n) h) s) (sym is) (kept (old ++ earlier) later.0 n s (next earlier old legal) it tied)

-- so does what makes a call proper
ask-later : (v : Volume) → IsNextRun v → IsAskKept v → AreActorsKept → (earlier old new : List Event) (by : Actor) (n : ℕ) (question : NodeAsk) → IsLegalAfter v earlier old → IsLater old new
    → events_at (actor_key by) new ≡ events_at (actor_key by) old → IsProperAsk v (facts (old ++ earlier)) (of_actor by (old ++ earlier)) by n question
    → IsProperAsk v (facts (new ++ earlier)) (of_actor by (new ++ earlier)) by n question
ask-later v next kept actors earlier old new by n question legal later same proper =
    let is = later-behind old new earlier later in
    let it : of_actor by (later.0 ++ (old ++ earlier)) ≡ of_actor by (old ++ earlier) =
    subst (λ (h : List Event). of_actor by h ≡ of_actor by (old ++ earlier)) is (actor-behind by earlier new old (actors by new old same)) in
    subst (λ (h : List Event). IsProperAsk v (facts h) (of_actor by h) by n question) (sym is) (kept (old ++ earlier) later.0 by n question (next earlier old legal) it proper)

-- a record whose write is known stays that of its write
record-stays : (v : Volume) (n stamp : ℕ) (b c : Option Begun) (p q : Option (List ℕ)) (r : Head × List ℕ) → ((x : Begun) → b ≡ Some x → c ≡ Some x) → ((x : List ℕ) → p ≡ Some x → q ≡ Some x)
    → record_on v.layout n stamp b p ≡ Some r → record_on v.layout n stamp c q ≡ Some r
record-stays v n stamp (Some b) c (Some p) q r wrote placed known =
    ap (λ (o : Option Begun). record_on v.layout n stamp o q) (wrote b refl) ∙ ap (record_on v.layout n stamp (Some b)) (placed p refl) ∙ known
record-stays v n stamp None c p q r wrote placed known = absurd (cc)
record-stays v n stamp (Some b) c None q r wrote placed known = absurd (cc)

record-later : (v : Volume) → ArePermanent → (earlier old new : List Event) (n : ℕ) (head : Head) (bins : List ℕ) → IsLater old new
    → IsRecordOf v (facts (old ++ earlier)) n head bins → IsRecordOf v (facts (new ++ earlier)) n head bins
record-later v permanent earlier old new n head bins later it =
    let was : List Event = old ++ earlier in
    let p = permanent was later.0 in
    subst (λ (h : List Event). IsRecordOf v (facts h) n head bins) (sym (later-behind old new earlier later))
    (record-stays v n head.stamp ((facts was).wrote head.stamp) ((facts (later.0 ++ was)).wrote head.stamp) ((facts was).places head.key.fid) ((facts (later.0 ++ was)).places head.key.fid)
    (head, bins) (p.wrote head.stamp) (p.places head.key.fid) it)

hands-later : (v : Volume) → ArePermanent → (earlier old new : List Event) (n : ℕ) (question : NodeAsk) (bins : List ℕ) → IsLater old new
    → HandsRecord v (facts (old ++ earlier)) n question bins → HandsRecord v (facts (new ++ earlier)) n question bins
hands-later v permanent earlier old new n (ask.Keep head) bins later it = record-later v permanent earlier old new n head bins later it
hands-later v permanent earlier old new n (ask.Refill fence head) bins later it = record-later v permanent earlier old new n head bins later it
hands-later v permanent earlier old new n (ask.Fetch key position stamp) bins later it = tt
hands-later v permanent earlier old new n (ask.Drop fid) bins later it = tt
hands-later v permanent earlier old new n ask.Probe bins later it = tt
hands-later v permanent earlier old new n ask.Stop bins later it = tt
hands-later v permanent earlier old new n ask.Start bins later it = tt
hands-later v permanent earlier old new n ask.Lose bins later it = tt
hands-later v permanent earlier old new n (ask.Replace loss fence) bins later it = tt

pub asker-kept : (v : Volume) → IsNextRun v → IsAskKept v → ArePermanent → AreActorsKept → IsAskerKept v
asker-kept v next kept permanent actors earlier old new by n question bins legal later same may = record {
  proper = ask-later v next kept actors earlier old new by n question legal later same may.proper;
  hands = hands-later v permanent earlier old new n question bins later may.hands;
}

pub read-kept : (v : Volume) → ArePermanent → IsReadKept v
read-kept v permanent earlier old new n (ask.Fetch key position stamp) (answer.Fetch (fetch.Held told)) bins bins' later it = record {
  head = it.head;
  bins = it.bins;
  it = record-later v permanent earlier old new n it.head it.bins later it.it;
  valid = it.valid;
  key_is = it.key_is;
  told_is = it.told_is;
  bins_are = it.bins_are;
}
read-kept v permanent earlier old new n question given bins bins' later it = tt

pub answer-law : (v : Volume) → IsNextRun v → IsNodeLaw v → IsNodeKept v → IsAskKept v → AreWordsKept → AreActorsKept → IsAnswerLaw v
answer-law v next nodes kept asks words actors earlier h by n question s given x at proper right opening is = record {
  allowed = (step h at.legal at.tied proper at.room).allowed (of_actor (by_of x) h);
  tied = λ before later same_w same_a legal.
      (step before legal.0 (node-later v next kept words earlier h before n s at.legal later same_w at.tied)
      (ask-later v next asks actors earlier h before by n question at.legal later same_a proper) (room before (words (Node n) before h same_w))).tied;
}
  where
    room : (g : List Event) → of_word (Node n) g ≡ of_word (Node n) h → length (of_word (Node n) (g ++ earlier)) < 2 ^ 64 - 1
    room g same = (let r = at.room in let l = ap length (word-behind (Node n) earlier g h same) in omega (arith, r, l))

    step : (g : List Event) → IsLegalAfter v earlier g → IsNode (facts (g ++ earlier)) (of_word (Node n) (g ++ earlier)) s → IsProperAsk v (facts (g ++ earlier)) (of_actor by (g ++ earlier)) by n question
        → length (of_word (Node n) (g ++ earlier)) < 2 ^ 64 - 1 → IsNodeStep v (g ++ earlier) n x (after_answer question given s)
    step g legal tied may few = nodes question (g ++ earlier) by n s given x (next earlier g legal) at.of_volume tied few may right opening is

pub arm-law : (v : Volume) → IsNextRun v → IsArming v → IsNodeKept v → AreWordsKept → IsArmLaw v
arm-law v next arming kept words earlier h by n k pick s at = record {
  allowed = (step h at.legal at.tied at.room).allowed (of_actor (by_of (e.Armed n k pick)) h);
  tied = λ before later same_w same_a legal.
      (step before legal.0 (node-later v next kept words earlier h before n s at.legal later same_w at.tied) (room before (words (Node n) before h same_w))).tied;
}
  where
    room : (g : List Event) → of_word (Node n) g ≡ of_word (Node n) h → length (of_word (Node n) (g ++ earlier)) < 2 ^ 64 - 1
    room g same = (let r = at.room in let l = ap length (word-behind (Node n) earlier g h same) in omega (arith, r, l))

    step : (g : List Event) → IsLegalAfter v earlier g → IsNode (facts (g ++ earlier)) (of_word (Node n) (g ++ earlier)) s → length (of_word (Node n) (g ++ earlier)) < 2 ^ 64 - 1
        → IsNodeStep v (g ++ earlier) n (e.Armed n k pick) s
    step g legal tied few = arming (g ++ earlier) n k pick s (record { legal = next earlier g legal; of_volume = at.of_volume; tied = tied; room = few })

-- A node that is lost has no change undecided, and holds nothing.

lost-decided : (w : List Event) → phase w ≡ Lost → undecided w ≡ None
lost-decided [] lost = refl
lost-decided (e.Broke by m c ∷ w) lost = absurd (cc)
lost-decided (e.Start m took ∷ w) lost = refl
lost-decided (e.Lose m l ∷ w) lost = refl
lost-decided (e.Stop m ∷ w) lost = absurd (cc)
lost-decided (e.Replace by m l fence ∷ w) lost = absurd (cc)
lost-decided (x ∷ w) lost = lost-decided w lost

pub lost-law : (v : Volume) → IsNextRun v → IsLostLaw v
lost-law v next earlier h n s legal tied is =
    let g = h ++ earlier in
    let w = of_word (Node n) g in
    let at_last : phase w ≡ Lost = sym tied.phase_is ∙ is in
    record {
      phase_is = sym at_last;
      fence_is = tied.fence_is;
      losses_is = tied.losses_is;
      held_is = λ key. ap listed (maps.get-empty {X = List Held} key_cmp key) ∙ ap (map (record_in (facts g))) (sym (lost-empty v (facts g) w (rows v g (next earlier h legal) n) key at_last));
      whole = whole-empty;
      undecided_is = ap (option_map (pending_in (facts g))) (sym (lost-decided w at_last));
    }
