use Rattle.std.proofs.Common.{ℕ, List, [], ◌∷◌, refl, sym, subst}
use mir.Syntax.{a_type, dcons, dnil, named}
use mir.MapTy.{inst_fn}
use denote.Param.{param, bounded}
use mir.Val.{Val, vptr}
use base.Logic.{SProp, ent, emp}
use base.Fml.{ftrue, fsep, flft}
use types.Logic.{sem}
use types.Kit.{raw, ‵, ◌⊛◌, given, ◌$◌, ◌∵◌, !, qed, by, move, keep, drop, split, fsplit, fjoin, learn, use0, use1}
use types.Run.{no_more, and_then, returns, enter}
use types.ByLocal.{alloc_all, pass_all, free_all, look_at, get, sets}
use types.Part.{agg}
use contract.Monad.{fact, fact_i}
use contract.Running.{tables}
use denote.Exit.{yes}
use denote.RattleType.{RattleType, owns}
use denote.Signature.{types_at, plain}
use denote.Builtin.{RefOf, unit}
use denote.Ref.{shr_vals, shr_Tells}
use denote.Steps.{nothing}
use denote.Struct.Tuple.{Tuple}
use denote.Triple.Walked.{Stays, stay_dropped, walk_of, Goes-dropped}
use Rattle.std.specs.Prelude.{None}
use Rattle.atomic_table.proofs.Walks.{proved}
use Rattle.logbook.specs.Kept.{offer_owns}
use Rattle.logbook.proofs.Fields.{token, Token, token_told, token_made, ends}
use Rattle.rz_chronicle.specs.Tokens.{kept, gained, tokens_own, notes, held_in}
use Rattle.rz_chronicle.specs.Rules.{IsMove}
use Rattle.rz_chronicle.proofs.Keys.{notes-back}
use Rattle.rz_events.specs.contracts.events.Event as Event
use Rattle.rz_chronicle.specs.contracts.told.Told as Told
use Rattle.rz_chronicle.specs.contracts.tokens.Law as Law
use Rattle.rz_chronicle.specs.contracts.tokens.Mine as Mine
use Rattle.rz_chronicle.specs.contracts.tokens.Tokens as Hand
use Rattle.rz_chronicle.proofs.Trades as trades
use Rattle.rz_chronicle.specs.contracts.tokens.Tokens.offer.{ended, clauses}
use Rattle.rz_chronicle.specs.contracts.tokens.Tokens.offer.Key.{name as #self}
use Rattle.rz_chronicle.proofs.tokens.Tokens.offer.Statement.{statement}
use Rattle.rz_chronicle.proofs.tokens.Tokens.offer.Code as code

abbrev All : RattleType
All = Tuple (Event.the_row ∷ Told.the_row ∷ Law.the_row ∷ Mine.the_row ∷ [])

abbrev Ts : RattleType
Ts = Hand.the_row

pub offer_spec : {M : Type 1} → statement M
offer_spec 𝓤 𝓛 𝓜 𝓡 wired X N _ _ gn dn _ =
    let H = 𝓛.H in let X' : RattleType = param 0 X in let En = ended X N gn dn in let inst = bounded (a_type ∷ a_type ∷ []) (X, (N, tt)) (dcons dn dnil) in let 𝓣 = tables 𝓤 H 𝓜 𝓡 𝓡.env in let fn = inst_fn inst code.function in let c = clauses X N gn dn 𝓛 𝓜.mem 𝓡.returns in
    let hs : Stays En.signature.params En.kept = (stay_dropped (plain (λ _. Ts)) yes, (stay_dropped (RefOf (0 ∷ []) tt (plain (λ _. X')) (λ _. tt)) yes, tt)) in
    proved 𝓛 En hs c 𝓜 𝓡 (Goes-dropped 𝓛 3 (plain (λ _. Ts)) yes (λ κs x f. refl), (Goes-dropped 𝓛 3 (RefOf (0 ∷ []) tt (plain (λ _. X')) (λ _. tt)) yes (λ κs x f. refl), tt)) (#self inst) fn (code.unfolded 𝓤 H 𝓜 𝓡 wired (X, (N, tt)) dn)
    (λ κs. ((λ x. token ∷ []), (shr_vals, tt))) (λ κs. ((λ x vs is. token_told unit vs is.0), (shr_Tells (named 0) κs.0 X', tt))) (λ κs qs bounds a gh are.
    let me = a.0 in let ask = gn.event a.1.0.now in let at : Val = vptr a.1.0.ref_ptr.0 a.1.0.ref_ptr.1 in
    let y : (walk_of 𝓛 En hs c).Ghost = ((κs, qs, bounds, a, (token ∷ [], (at ∷ [], tt))), gh) in let WordToken : Val → SProp 𝓤 = (walk_of 𝓛 En hs c).post y in
    qed 𝓛 ((‵ (fsep (flft κs.0 qs.0) (fsep (flft κs.1.0 qs.1.0) (fsep (flft κs.1.1.0 qs.1.1.0) ftrue))) ⊛ ‵ (owns (types_at En.signature.params κs) a y.0.4)) ∷ raw (fact 𝓤 _) ∷ raw (fact 𝓤 _) ∷ given _ (‵ ftrue) ∷ []) ∵ keep ! (3 ∷ 0 ∷ []) $ learn ! (λ asked. drop ! $ split ! $
    move ! (1 ∷ []) $ fsplit ! $ fsplit ! $ keep ! (1 ∷ 3 ∷ []) $
    let about = notes me.held in let names : List ℕ = me.counters ∷ me.copy ∷ me.kind in let answer = λ (r : Told.the_row.Denot). gained names (held_in about) r.before r.log in
    let mine : ent 𝓤 (sem 𝓛 (tokens_own me.counters me.copy me.held me.log)) (sem 𝓛 (offer_owns (kept names) (IsMove ask) answer None)) =
    subst (λ (hs : List (ℕ × ℕ)). ent 𝓤 (sem 𝓛 (tokens_own me.counters me.copy me.held me.log)) (sem 𝓛 (offer_owns (kept names) (IsMove ask) (λ (r : Told.the_row.Denot). gained names hs r.before r.log) None))) (sym (notes-back me.held))
    (trades.offers 𝓛 me.counters me.copy me.kind me.held me.log ask asked.0 (λ _. (asked.1, asked.2, asked.3))) in
    enter ! 𝓣.C 𝓣.Λ fn (token ∷ at ∷ []) WordToken $ alloc_all ! (λ l. pass_all ! refl ((tt, (tt, tt)), ((tt, tt), tt)) $
    use1 𝓛 (‵ (offer_owns (kept names) (IsMove ask) answer None)) mine $
    use0 𝓛 (‵ ((Token All).own_val (record {}, tt) (token ∷ []))) (token_made All 𝓛) $ fjoin ! $ sets ! (agg ! (no_more !)) refl (tt, tt) $ sets ! (agg ! (and_then ! (get ! refl) (no_more !))) refl (tt, (tt, tt)) $
    nothing ! $ nothing ! $ fjoin ! $ nothing ! $ fjoin ! $
    returns ! (look_at ! 0 refl) $ free_all ! refl $ keep ! (2 ∷ 0 ∷ 1 ∷ []) $ by ! (ends 𝓛 En hs c y token (record { marker = record {}; names = names; ask = ask; about = about; state = None }) (tt, (tt, tt)) (tt, (tt, tt)) (fact_i 𝓤 _ (emp 𝓤) (refl, refl, refl, refl))))))
