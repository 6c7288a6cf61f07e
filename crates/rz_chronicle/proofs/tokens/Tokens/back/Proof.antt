use Rattle.std.proofs.Common.{ℕ, List, [], ◌∷◌, sym, refl, subst}
use mir.Val.{Val}
use base.Logic.{SProp, ent, emp, id⊢}
use base.Fml.{ftrue}
use types.Logic.{sem}
use types.Kit.{‵, ◌⊛◌, given, ◌$◌, ◌∵◌, !, qed, by, move, keep, drop, split, fsplit, fjoin, fpick, learn, use0, use1}
use types.Run.{no_more, and_then, returns, enter}
use types.ByLocal.{alloc_all, pass_all, free_all, look_at, get, sets}
use types.Part.{agg}
use contract.Monad.{fact_i}
use contract.Running.{tables}
use denote.Exit.{yes}
use denote.RattleType.{RattleType, owns}
use denote.Signature.{types_at, plain}
use denote.Builtin.{unit}
use denote.Steps.{nothing}
use denote.Struct.Tuple.{Tuple}
use denote.Triple.Walked.{Stays, stay_dropped, walk_of, Goes-dropped}
use Rattle.atomic_table.proofs.Walks.{proved}
use Rattle.logbook.specs.contracts.tokens.Gained as Gained
use Rattle.logbook.proofs.Fields.{token, Token, token_told, token_made, ends}
use Rattle.rz_chronicle.specs.Tokens.{gained, at, counts, held_in}
use Rattle.rz_events.specs.contracts.events.Event as Event
use Rattle.rz_chronicle.specs.contracts.told.Told as Told
use Rattle.rz_chronicle.specs.contracts.tokens.Mine as Mine
use Rattle.rz_chronicle.specs.contracts.tokens.MineGainEventTold.TheImpl as mine
use Rattle.rz_chronicle.specs.contracts.tokens.Tokens.back.{ended, clauses}
use Rattle.rz_chronicle.specs.contracts.tokens.Tokens.back.Key.{name as #self}
use Rattle.rz_chronicle.proofs.tokens.Tokens.back.Statement.{statement}
use Rattle.rz_chronicle.proofs.tokens.Tokens.back.Code as code

abbrev Gs : RattleType
Gs = Gained.the_row Event.the_row Told.the_row Mine.the_row mine.ghosts

abbrev All : RattleType
All = Tuple (Event.the_row ∷ Told.the_row ∷ Mine.the_row ∷ [])

pub back_spec : {M : Type 1} → statement M
back_spec 𝓤 𝓛 𝓜 𝓡 wired =
    let H = 𝓛.H in let 𝓣 = tables 𝓤 H 𝓜 𝓡 𝓡.env in let fn = code.function in let c = clauses 𝓛 𝓜.mem 𝓡.returns in
    let hs : Stays ended.signature.params ended.kept = (stay_dropped (plain (λ _. Gs)) yes, tt) in
    proved 𝓛 ended hs c 𝓜 𝓡 (Goes-dropped 𝓛 0 (plain (λ _. Gs)) yes (λ κs x f. refl), tt) #self fn (code.unfolded 𝓤 H 𝓜 𝓡 wired)
    (λ κs. ((λ x. token ∷ []), tt)) (λ κs. ((λ x vs is. token_told All vs is.0), tt)) (λ κs qs bounds a gh are.
    let g = a.0 in
    let y : (walk_of 𝓛 ended hs c).Ghost = ((κs, qs, bounds, a, (token ∷ [], tt)), gh) in let WordToken : Val → SProp 𝓤 = (walk_of 𝓛 ended hs c).post y in
    qed 𝓛 ((‵ ftrue ⊛ ‵ (owns (types_at ended.signature.params κs) a y.0.4)) ∷ given _ (‵ ftrue) ∷ []) ∵ move ! (1 ∷ []) $ learn ! (λ asked. drop ! $ split ! $
    move ! (1 ∷ []) $ fsplit ! $ fsplit ! $ keep ! (1 ∷ 3 ∷ []) $
    use1 𝓛 (‵ (gained (asked.0.0 ∷ asked.0.1.0 ∷ asked.0.1.1) (held_in g.about) g.answer.before g.answer.log)) (subst (λ (ns : List ℕ). ent 𝓤 (sem 𝓛 (gained g.names (held_in g.about) g.answer.before g.answer.log)) (sem 𝓛 (gained ns (held_in g.about) g.answer.before g.answer.log))) asked.1 (id⊢ 𝓤 _)) $
    fsplit ! $ move ! (1 ∷ []) $ fpick ! (λ moved. drop ! $
    enter ! 𝓣.C 𝓣.Λ fn (token ∷ []) WordToken $ alloc_all ! (λ l. pass_all ! refl ((tt, (tt, tt)), tt) $
    use0 𝓛 (‵ ((Token unit).own_val (record {}, tt) (token ∷ []))) (token_made unit 𝓛) $ fjoin ! $ sets ! (agg ! (no_more !)) refl (tt, tt) $ sets ! (agg ! (and_then ! (get ! refl) (no_more !))) refl (tt, (tt, tt)) $
    nothing ! $ nothing ! $ fjoin ! $
    returns ! (look_at ! 0 refl) $ free_all ! refl $ keep ! (2 ∷ 0 ∷ 1 ∷ []) $ by ! (ends 𝓛 ended hs c y token (record { marker = record {}; counters = asked.0.0; copy = asked.0.1.0; kind = asked.0.1.1; held = at (counts g.answer.log) (held_in g.about); log = g.answer.log }) (tt, tt) (tt, tt) (fact_i 𝓤 _ (emp 𝓤) (sym asked.1, refl, refl, moved.0, moved.1.0, moved.2, moved.1.1)))))))
