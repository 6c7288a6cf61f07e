use Rattle.std.proofs.Common.{ℕ, List, [], ◌∷◌, refl, sym, subst}
use mir.Val.{Val}
use base.Logic.{SProp, ent, emp}
use base.Fml.{ftrue}
use types.Logic.{sem}
use types.Kit.{‵, ◌⊛◌, given, ◌$◌, ◌∵◌, !, qed, by, move, keep, drop, split, fsplit, fjoin, learn, use0, use1}
use types.Run.{no_more, and_then, returns, enter}
use types.ByLocal.{alloc_all, pass_all, free_all, look_at, get, sets}
use types.Part.{agg}
use contract.Monad.{fact_i}
use contract.Running.{tables}
use denote.Exit.{yes}
use denote.RattleType.{RattleType, owns}
use denote.Signature.{types_at, plain}
use denote.Builtin.{unit}
use denote.Steps.{nothing}
use denote.Struct.Tuple.{Tuple}
use denote.Triple.Walked.{Stays, stay_dropped, walk_of, Goes-dropped}
use Rattle.std.specs.Prelude.{None}
use Rattle.atomic_table.proofs.Walks.{proved}
use Rattle.logbook.specs.Kept.{offer_owns}
use Rattle.logbook.proofs.Fields.{token, Token, token_told, token_made, ends}
use Rattle.rz_chronicle.specs.Tokens.{kept, gained, tokens_own, notes, held_in, mark}
use Rattle.rz_chronicle.specs.Rules.{IsMove}
use Rattle.rz_chronicle.proofs.Keys.{notes-back, mark-out}
use Rattle.rz_events.specs.contracts.events.Event as Event
use Rattle.rz_chronicle.specs.contracts.told.Told as Told
use Rattle.rz_chronicle.specs.contracts.tokens.Law as Law
use Rattle.rz_chronicle.specs.contracts.tokens.Mine as Mine
use Rattle.rz_chronicle.specs.contracts.tokens.Tokens as Hand
use Rattle.rz_chronicle.proofs.Trades as trades
use Rattle.rz_chronicle.specs.contracts.tokens.Tokens.look.{ended, clauses}
use Rattle.rz_chronicle.specs.contracts.tokens.Tokens.look.Key.{name as #self}
use Rattle.rz_chronicle.proofs.tokens.Tokens.look.Statement.{statement}
use Rattle.rz_chronicle.proofs.tokens.Tokens.look.Code as code

abbrev All : RattleType
All = Tuple (Event.the_row ∷ Told.the_row ∷ Law.the_row ∷ Mine.the_row ∷ [])

abbrev Ts : RattleType
Ts = Hand.the_row

pub look_spec : {M : Type 1} → statement M
look_spec 𝓤 𝓛 𝓜 𝓡 wired =
    let H = 𝓛.H in let 𝓣 = tables 𝓤 H 𝓜 𝓡 𝓡.env in let fn = code.function in let c = clauses 𝓛 𝓜.mem 𝓡.returns in
    let hs : Stays ended.signature.params ended.kept = (stay_dropped (plain (λ _. Ts)) yes, tt) in
    proved 𝓛 ended hs c 𝓜 𝓡 (Goes-dropped 𝓛 0 (plain (λ _. Ts)) yes (λ κs x f. refl), tt) #self fn (code.unfolded 𝓤 H 𝓜 𝓡 wired)
    (λ κs. ((λ x. token ∷ []), tt)) (λ κs. ((λ x vs is. token_told unit vs is.0), tt)) (λ κs qs bounds a gh are.
    let me = a.0 in
    let y : (walk_of 𝓛 ended hs c).Ghost = ((κs, qs, bounds, a, (token ∷ [], tt)), gh) in let WordToken : Val → SProp 𝓤 = (walk_of 𝓛 ended hs c).post y in
    qed 𝓛 ((‵ ftrue ⊛ ‵ (owns (types_at ended.signature.params κs) a y.0.4)) ∷ given _ (‵ ftrue) ∷ []) ∵ move ! (1 ∷ []) $ learn ! (λ asked. drop ! $ split ! $
    move ! (1 ∷ []) $ fsplit ! $ fsplit ! $ keep ! (1 ∷ 3 ∷ []) $
    let about = notes me.held in let names : List ℕ = me.counters ∷ me.copy ∷ me.kind in let answer = λ (r : Told.the_row.Denot). gained names (held_in about) r.before r.log in
    let mine : ent 𝓤 (sem 𝓛 (tokens_own me.counters me.copy me.held me.log)) (sem 𝓛 (offer_owns (kept names) (IsMove mark) answer None)) =
    subst (λ (hs : List (ℕ × ℕ)). ent 𝓤 (sem 𝓛 (tokens_own me.counters me.copy me.held me.log)) (sem 𝓛 (offer_owns (kept names) (IsMove mark) (λ (r : Told.the_row.Denot). gained names hs r.before r.log) None))) (sym (notes-back me.held))
    (trades.offers 𝓛 me.counters me.copy me.kind me.held me.log mark asked (λ low. absurd (mark-out low))) in
    enter ! 𝓣.C 𝓣.Λ fn (token ∷ []) WordToken $ alloc_all ! (λ l. pass_all ! refl ((tt, (tt, tt)), tt) $
    use1 𝓛 (‵ (offer_owns (kept names) (IsMove mark) answer None)) mine $
    use0 𝓛 (‵ ((Token All).own_val (record {}, tt) (token ∷ []))) (token_made All 𝓛) $ fjoin ! $ sets ! (agg ! (no_more !)) refl (tt, tt) $ sets ! (agg ! (and_then ! (get ! refl) (no_more !))) refl (tt, (tt, tt)) $
    nothing ! $ nothing ! $ fjoin ! $
    returns ! (look_at ! 0 refl) $ free_all ! refl $ keep ! (2 ∷ 0 ∷ 1 ∷ []) $ by ! (ends 𝓛 ended hs c y token (record { marker = record {}; names = names; ask = mark; about = about; state = None }) (tt, tt) (tt, tt) (fact_i 𝓤 _ (emp 𝓤) (refl, refl, refl, refl))))))
