use Rattle.std.proofs.Common.{◌≡◌, ℕ, List, [], ◌∷◌, ◌++◌, refl}
use mir.Val.{Val}
use base.Logic.{SProp, ent, sep, emp}
use base.Fml.{ftrue}
use types.Logic.{sem}
use types.Kit.{done, rewrite, use2, ‵, ◌⊛◌, given, ◌$◌, ◌∵◌, !, qed, by, move, keep, drop, split, fsplit, fjoin, learn, use0}
use types.Run.{no_more, and_then, returns, enter}
use types.ByLocal.{alloc_all, pass_all, free_all, look_at, get, sets}
use types.Part.{agg}
use contract.Monad.{fact_i}
use contract.Running.{tables}
use denote.Exit.{yes}
use denote.RattleType.{RattleType, owns}
use denote.Signature.{types_at, plain}
use denote.Builtin.{unit}
use denote.Steps.{nothing}
use denote.Triple.Walked.{Stays, stay_dropped, walk_of, Goes-dropped}
use Rattle.atomic_table.proofs.Walks.{proved}
use Rattle.logbook.proofs.Fields.{token, Token, token_told, token_made, ends}
use Rattle.rz_chronicle.specs.Tokens.{tokens_own, parts}
use Rattle.rz_chronicle.specs.contracts.tokens.Tokens as Hand
use Rattle.rz_events.specs.contracts.events.Event as Event
use Rattle.rz_chronicle.proofs.Trades as trades
use Rattle.rz_chronicle.specs.contracts.tokens.Tokens.join.{ended, clauses}
use Rattle.rz_chronicle.specs.contracts.tokens.Tokens.join.Key.{name as #self}
use Rattle.rz_chronicle.proofs.tokens.Tokens.join.Statement.{statement}
use Rattle.rz_chronicle.proofs.tokens.Tokens.join.Code as code

abbrev Ts : RattleType
Ts = Hand.the_row

-- both in one
both : {M : Type 1} {𝓤 : seplogic.Ra.Ura.Ura M} (𝓛 : types.Logic.Logic 𝓤) (δ η δ2 η2 : ℕ) (xs ys : List (ℕ × ℕ)) (log log2 : List Event.the_row.Denot) → δ2 ≡ δ
    → ent 𝓤 (sep 𝓤 (sem 𝓛 (tokens_own δ η xs log)) (sem 𝓛 (tokens_own δ2 η2 ys log2))) (sem 𝓛 (tokens_own δ η (xs ++ ys) log))
both 𝓛 δ η δ2 η2 xs ys log log2 is = qed 𝓛 (‵ (tokens_own δ η xs log) ∷ ‵ (tokens_own δ2 η2 ys log2) ∷ []) ∵ fsplit ! $ move ! (2 ∷ []) $ fsplit ! $
    -- its parts, its reached, parts, reached
    rewrite ! 0 (λ (d : ℕ). ‵ (parts d ys)) is refl $ move ! (2 ∷ 0 ∷ []) $ use2 𝓛 (‵ (parts δ (xs ++ ys))) (trades.two_parts 𝓛 δ xs ys) $
    move ! (0 ∷ 2 ∷ []) $ fjoin ! $ keep ! (0 ∷ []) $ done !

pub join_spec : {M : Type 1} → statement M
join_spec 𝓤 𝓛 𝓜 𝓡 wired =
    let H = 𝓛.H in let 𝓣 = tables 𝓤 H 𝓜 𝓡 𝓡.env in let fn = code.function in let c = clauses 𝓛 𝓜.mem 𝓡.returns in
    let hs : Stays ended.signature.params ended.kept = (stay_dropped (plain (λ _. Ts)) yes, (stay_dropped (plain (λ _. Ts)) yes, tt)) in
    proved 𝓛 ended hs c 𝓜 𝓡 (Goes-dropped 𝓛 0 (plain (λ _. Ts)) yes (λ κs x f. refl), (Goes-dropped 𝓛 0 (plain (λ _. Ts)) yes (λ κs x f. refl), tt)) #self fn (code.unfolded 𝓤 H 𝓜 𝓡 wired)
    (λ κs. ((λ x. token ∷ []), ((λ x. token ∷ []), tt))) (λ κs. ((λ x vs is. token_told unit vs is.0), ((λ x vs is. token_told unit vs is.0), tt))) (λ κs qs bounds a gh are.
    let me = a.0 in let other = a.1.0 in
    let y : (walk_of 𝓛 ended hs c).Ghost = ((κs, qs, bounds, a, (token ∷ [], (token ∷ [], tt))), gh) in let WordToken : Val → SProp 𝓤 = (walk_of 𝓛 ended hs c).post y in
    qed 𝓛 ((‵ ftrue ⊛ ‵ (owns (types_at ended.signature.params κs) a y.0.4)) ∷ given _ (‵ ftrue) ∷ []) ∵ move ! (1 ∷ []) $ learn ! (λ asked. drop ! $ split ! $
    move ! (1 ∷ []) $ fsplit ! $ fsplit ! $ move ! (2 ∷ []) $ fsplit ! $ fsplit ! $
    -- the other's value and tokens, the rest, the own value and tokens, the rest
    keep ! (4 ∷ 1 ∷ 5 ∷ []) $
    enter ! 𝓣.C 𝓣.Λ fn (token ∷ token ∷ []) WordToken $ alloc_all ! (λ l. pass_all ! refl ((tt, (tt, tt)), ((tt, (tt, tt)), tt)) $
    use2 𝓛 (‵ (tokens_own me.counters me.copy (me.held ++ other.held) me.log)) (both 𝓛 me.counters me.copy other.counters other.copy me.held other.held me.log other.log asked.0) $
    use0 𝓛 (‵ ((Token unit).own_val (record {}, tt) (token ∷ []))) (token_made unit 𝓛) $ fjoin ! $ sets ! (agg ! (no_more !)) refl (tt, tt) $ sets ! (agg ! (and_then ! (get ! refl) (no_more !))) refl (tt, (tt, tt)) $
    nothing ! $ nothing ! $ fjoin ! $ nothing ! $ fjoin ! $
    returns ! (look_at ! 0 refl) $ free_all ! refl $ keep ! (2 ∷ 0 ∷ 1 ∷ []) $ by ! (ends 𝓛 ended hs c y token (record { marker = record {}; counters = me.counters; copy = me.copy; kind = me.kind; held = me.held ++ other.held; log = me.log }) (tt, (tt, tt)) (tt, (tt, tt)) (fact_i 𝓤 _ (emp 𝓤) (refl, refl, refl, refl, refl))))))
