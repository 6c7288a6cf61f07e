use Rattle.std.proofs.Common.{ℕ, List, [], ◌∷◌, ◌++◌, map, refl, w64}
use mir.Val.{Val, vint, vstruct, vcons, vnil, of_list}
use base.Logic.{SProp, ent, sep, emp}
use base.Fml.{ftrue, fsep, feq}
use types.Logic.{sem}
use types.Kit.{done, fjoin3, fpack, feq_i, ‵, ◌⊛◌, given, ◌$◌, ◌∵◌, !, qed, by, move, keep, drop, split, fsplit, fjoin, learn, use0, use1}
use types.Run.{no_more, and_then, returns, enter}
use types.ByLocal.{alloc_all, pass_all, free_all, look_at, get, sets}
use types.Part.{agg}
use contract.Monad.{fact_i}
use contract.Running.{tables}
use denote.Exit.{yes}
use denote.RattleType.{RattleType, owns, Valss}
use denote.Signature.{types_at, plain}
use denote.Builtin.{u64, unit}
use denote.Plain.{uint_vals, uint_Tells}
use denote.Steps.{nothing}
use denote.Triple.Walked.{Stays, stay_dropped, walk_of, Goes-dropped}
use Rattle.atomic_table.proofs.Walks.{proved}
use Rattle.logbook.proofs.Fields.{token, Token, token_told, token_made, ends}
use Rattle.rz_chronicle.specs.Tokens.{tokens_own, parts, IsHolding, without, count_in}
use types.Growing.{at_least_dup}
use base.Share.{quarter}
use Rattle.logbook.specs.Kept.{part, logs, reached}
use Rattle.rz_chronicle.specs.contracts.tokens.Tokens as Hand
use Rattle.rz_events.specs.contracts.events.Event as Event
use Rattle.rz_chronicle.proofs.Trades as trades
use Rattle.rz_chronicle.specs.contracts.tokens.Tokens.parted.{ended, clauses}
use Rattle.rz_chronicle.specs.contracts.tokens.Tokens.parted.Key.{name as #self}
use Rattle.rz_chronicle.proofs.tokens.Tokens.parted.Statement.{statement}
use Rattle.rz_chronicle.proofs.tokens.Tokens.parted.Code as code

abbrev Ts : RattleType
Ts = Hand.the_row

-- the token of the key, and the others
cut : {M : Type 1} {𝓤 : seplogic.Ra.Ura.Ura M} (𝓛 : types.Logic.Logic 𝓤) (δ η k : ℕ) (held : List (ℕ × ℕ)) (log : List Event.the_row.Denot) → IsHolding k held
    → ent 𝓤 (sem 𝓛 (tokens_own δ η held log)) (sep 𝓤 (sem 𝓛 (tokens_own δ η ((k, count_in k held) ∷ []) log)) (sem 𝓛 (tokens_own δ η (without k held) log)))
cut 𝓛 δ η k held log has = let c = Event.the_row.coded.code in qed 𝓛 (‵ (tokens_own δ η held log) ∷ []) ∵ fsplit ! $
    use1 𝓛 (‵ (part δ k quarter (count_in k held)) ⊛ ‵ (parts δ (without k held))) (trades.out 𝓛 δ k held has) $ split ! $
    -- the part, the other parts, reached
    move ! (2 ∷ []) $ use1 𝓛 (‵ (reached c η log) ⊛ ‵ (reached c η log)) (at_least_dup logs 𝓛 η (map c log)) $ split ! $
    -- reached, reached, the part, the other parts
    move ! (3 ∷ 0 ∷ []) $ fjoin ! $ nothing ! $ move ! (3 ∷ 0 ∷ []) $ fjoin ! $ move ! (0 ∷ 2 ∷ []) $ fjoin ! $ done !

pub parted_spec : {M : Type 1} → statement M
parted_spec 𝓤 𝓛 𝓜 𝓡 wired =
    let H = 𝓛.H in let 𝓣 = tables 𝓤 H 𝓜 𝓡 𝓡.env in let fn = code.function in let c = clauses 𝓛 𝓜.mem 𝓡.returns in
    let hs : Stays ended.signature.params ended.kept = (stay_dropped (plain (λ _. Ts)) yes, (stay_dropped (plain (λ _. u64)) yes, tt)) in
    proved 𝓛 ended hs c 𝓜 𝓡 (Goes-dropped 𝓛 0 (plain (λ _. Ts)) yes (λ κs x f. refl), (Goes-dropped 𝓛 0 (plain (λ _. u64)) yes (λ κs x f. refl), tt)) #self fn (code.unfolded 𝓤 H 𝓜 𝓡 wired)
    (λ κs. ((λ x. token ∷ []), (uint_vals w64, tt))) (λ κs. ((λ x vs is. token_told unit vs is.0), (uint_Tells w64, tt))) (λ κs qs bounds a gh are.
    let me = a.0 in let key : ℕ = a.1.0 in
    let y : (walk_of 𝓛 ended hs c).Ghost = ((κs, qs, bounds, a, (token ∷ [], (vint w64 a.1.0 ∷ [], tt))), gh) in let WordToken : Val → SProp 𝓤 = (walk_of 𝓛 ended hs c).post y in
    qed 𝓛 ((‵ ftrue ⊛ ‵ (owns (types_at ended.signature.params κs) a y.0.4)) ∷ given _ (‵ ftrue) ∷ []) ∵ move ! (1 ∷ []) $ learn ! (λ asked. drop ! $ split ! $
    move ! (1 ∷ []) $ fsplit ! $ fsplit ! $ keep ! (1 ∷ 3 ∷ []) $
    let one : List (ℕ × ℕ) = (key, count_in key me.held) ∷ [] in let rest : List (ℕ × ℕ) = without key me.held in
    enter ! 𝓣.C 𝓣.Λ fn (token ∷ vint w64 a.1.0 ∷ []) WordToken $ alloc_all ! (λ l. pass_all ! refl ((tt, (tt, tt)), ((tt, record { fits = are.1.0.1 }), tt)) $
    use1 𝓛 (‵ (tokens_own me.counters me.copy one me.log) ⊛ ‵ (tokens_own me.counters me.copy rest me.log)) (cut 𝓛 me.counters me.copy key me.held me.log asked) $ split ! $
    sets ! (agg ! (no_more !)) refl (tt, tt) $ sets ! (agg ! (and_then ! (get ! refl) (no_more !))) refl (tt, (tt, tt)) $ sets ! (agg ! (no_more !)) refl (tt, tt) $ sets ! (agg ! (and_then ! (get ! refl) (no_more !))) refl (tt, (tt, tt)) $
    sets ! (agg ! (and_then ! (get ! refl) (and_then ! (get ! refl) (no_more !)))) refl (tt, ((tt, tt), ((tt, tt), tt))) $
    use0 𝓛 (‵ ((Token unit).own_val (record {}, tt) (token ∷ []))) (token_made unit 𝓛) $ fjoin ! $ move ! (1 ∷ []) $ use0 𝓛 (‵ ((Token unit).own_val (record {}, tt) (token ∷ []))) (token_made unit 𝓛) $ fjoin ! $ nothing ! $ move ! (2 ∷ 1 ∷ 0 ∷ []) $ fjoin3 ! $
    let v : Val = vstruct (vcons token (vcons token vnil)) in let Rs : List RattleType = Ts ∷ Ts ∷ [] in
    let s : Ts.Denot = record { marker = record {}; counters = me.counters; copy = me.copy; kind = me.kind; held = one; log = me.log } in let p : Ts.Denot = record { marker = record {}; counters = me.counters; copy = me.copy; kind = me.kind; held = rest; log = me.log } in
    feq_i ! (List Val) (v ∷ []) (v ∷ []) refl $ fjoin ! $ fpack ! (Valss Rs) (λ vss. fsep (feq (List Val) (v ∷ []) (vstruct (of_list (vss.0 ++ (vss.1.0 ++ []))) ∷ [])) (owns Rs (s, (p, tt)) vss)) (token ∷ [], (token ∷ [], tt)) $
    nothing ! $ nothing ! $ fjoin ! $ nothing ! $ fjoin ! $
    returns ! (look_at ! 0 refl) $ free_all ! refl $ keep ! (2 ∷ 0 ∷ 1 ∷ []) $ by ! (ends 𝓛 ended hs c y v (s, p) (tt, (tt, tt)) (tt, (tt, tt)) (fact_i 𝓤 _ (emp 𝓤) (refl, refl, refl, refl, refl, refl, refl, refl, refl, refl))))))
