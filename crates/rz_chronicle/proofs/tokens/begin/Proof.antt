use Rattle.std.proofs.Common.{ℕ, List, [], ◌∷◌, ◌++◌, refl}
use mir.Val.{Val, vptr, vstruct, vcons, vnil, of_list}
use base.Logic.{SProp, emp}
use base.Fml.{ftrue, fsep, feq, flft}
use mir.Syntax.{a_type, dcons, dnil, named}
use mir.MapTy.{inst_fn}
use denote.Param.{bounded}
use types.Kit.{‵, raw, ◌⊛◌, some, given, later, ◌$◌, ◌∵◌, !, qed, by, move, keep, drop, learn, split, fjoin, fjoin3, fpack, pick, use0, await, feq_i}
use types.Run.{no_more, and_then, returns, enter}
use types.ByLocal.{alloc_all, pass_all, free_all, look_at, get, sets}
use types.Part.{agg}
use contract.Monad.{fact, fact_i}
use contract.Running.{tables}
use denote.Exit.{yes}
use denote.Ref.{shr_vals, shr_Tells}
use denote.RattleType.{RattleType, owns, Valss}
use denote.Signature.{types_at, plain}
use denote.Builtin.{RefOf, unit}
use denote.Steps.{nothing}
use denote.Struct.Tuple.{Tuple}
use denote.Triple.Walked.{Stays, stay_dropped, walk_of, Goes-dropped}
use Rattle.atomic_table.proofs.Walks.{proved}
use Rattle.logbook.specs.contracts.tokens.Start as Start
use Rattle.logbook.proofs.Fields.{token, Token, token_made, ends}
use Rattle.rz_chronicle.specs.Tokens.{kept, tokens_own, zeros}
use Rattle.rz_chronicle.specs.Keys.{rows}
use Rattle.rz_events.specs.contracts.events.Event as Event
use Rattle.rz_chronicle.specs.contracts.told.Told as Told
use Rattle.rz_chronicle.specs.contracts.tokens.Law as Law
use Rattle.rz_chronicle.specs.contracts.tokens.Tokens as Hand
use Rattle.rz_config.specs.contracts.volume.Volume as Volume
use Rattle.rz_chronicle.specs.Kinds.{kind_after}
use Rattle.rz_chronicle.specs.contracts.tokens.LawRuleEventTold.TheImpl as law
use Rattle.rz_chronicle.proofs.Trades as trades
use Rattle.rz_chronicle.specs.contracts.tokens.begin.{ended, clauses}
use Rattle.rz_chronicle.specs.contracts.tokens.begin.Key.{name as #self}
use Rattle.rz_chronicle.proofs.tokens.begin.Statement.{statement}
use Rattle.rz_chronicle.proofs.tokens.begin.Code as code

abbrev St : RattleType
St = Start.the_row Event.the_row Told.the_row Law.the_row law.ghosts

abbrev All : RattleType
All = Tuple (Event.the_row ∷ Told.the_row ∷ Law.the_row ∷ [])

pub begin_spec : {M : Type 1} → statement M
begin_spec 𝓤 𝓛 𝓜 𝓡 wired B _ gn dn _ =
    let H = 𝓛.H in let En = ended B gn dn in let inst = bounded (a_type ∷ []) (B, tt) (dcons dn dnil) in let 𝓣 = tables 𝓤 H 𝓜 𝓡 𝓡.env in let fn = inst_fn inst code.function in let c = clauses B gn dn 𝓛 𝓜.mem 𝓡.returns in
    let hs : Stays En.signature.params En.kept = (stay_dropped (RefOf (0 ∷ []) tt (plain (λ _. Volume.the_row)) (λ _. tt)) yes, tt) in
    proved 𝓛 En hs c 𝓜 𝓡 (Goes-dropped 𝓛 2 (RefOf (0 ∷ []) tt (plain (λ _. Volume.the_row)) (λ _. tt)) yes (λ κs x f. refl), tt) (#self inst) fn (code.unfolded 𝓤 H 𝓜 𝓡 wired (B, tt) dn)
    (λ κs. (shr_vals, tt)) (λ κs. (shr_Tells (named 0) κs.0 Volume.the_row, tt)) (λ κs qs bounds a gh are.
    let kind : List ℕ = kind_after gn.honest a.0.now gn.earlier in let here : Val = vptr a.0.ref_ptr.0 a.0.ref_ptr.1 in
    let y : (walk_of 𝓛 En hs c).Ghost = ((κs, qs, bounds, a, (here ∷ [], tt)), gh) in let WordToken : Val → SProp 𝓤 = (walk_of 𝓛 En hs c).post y in
    qed 𝓛 ((‵ (fsep (flft κs.0 qs.0) (fsep (flft κs.1.0 qs.1.0) ftrue)) ⊛ ‵ (owns (types_at En.signature.params κs) a y.0.4)) ∷ raw (fact 𝓤 _) ∷ given _ (‵ ftrue) ∷ []) ∵ keep ! (2 ∷ 0 ∷ []) $ learn ! (λ fits. drop ! $ split ! $ keep ! (0 ∷ []) $
    enter ! 𝓣.C 𝓣.Λ fn (here ∷ []) WordToken $ alloc_all ! (λ l. pass_all ! refl ((tt, tt), tt) $
    use0 𝓛 (later (some (λ (n : ℕ × ℕ). ‵ (kept (n.0 ∷ n.1 ∷ kind) []) ⊛ ‵ (tokens_own n.0 n.1 (zeros 0 rows) [])))) (trades.begins 𝓛 kind fits) $ await ! tt $ pick ! (λ n. split ! $
    sets ! (agg ! (no_more !)) refl (tt, tt) $ sets ! (agg ! (and_then ! (get ! refl) (no_more !))) refl (tt, (tt, tt)) $ sets ! (agg ! (no_more !)) refl (tt, tt) $ sets ! (agg ! (and_then ! (get ! refl) (no_more !))) refl (tt, (tt, tt)) $
    sets ! (agg ! (and_then ! (get ! refl) (and_then ! (get ! refl) (no_more !)))) refl (tt, ((tt, tt), ((tt, tt), tt))) $
    use0 𝓛 (‵ ((Token All).own_val (record {}, tt) (token ∷ []))) (token_made All 𝓛) $ fjoin ! $ move ! (1 ∷ []) $ use0 𝓛 (‵ ((Token unit).own_val (record {}, tt) (token ∷ []))) (token_made unit 𝓛) $ fjoin ! $ nothing ! $ move ! (2 ∷ 1 ∷ 0 ∷ []) $ fjoin3 ! $
    let v : Val = vstruct (vcons token (vcons token vnil)) in let Rs : List RattleType = St ∷ Hand.the_row ∷ [] in
    let s : St.Denot = record { marker = record {}; names = n.0 ∷ n.1 ∷ kind; shown = [] } in let p : Hand.the_row.Denot = record { marker = record {}; counters = n.0; copy = n.1; kind = kind; held = zeros 0 rows; log = [] } in
    feq_i ! (List Val) (v ∷ []) (v ∷ []) refl $ fjoin ! $ fpack ! (Valss Rs) (λ vss. fsep (feq (List Val) (v ∷ []) (vstruct (of_list (vss.0 ++ (vss.1.0 ++ []))) ∷ [])) (owns Rs (s, (p, tt)) vss)) (token ∷ [], (token ∷ [], tt)) $
    nothing ! $ nothing ! $ fjoin ! $
    returns ! (look_at ! 0 refl) $ free_all ! refl $ keep ! (2 ∷ 0 ∷ 1 ∷ []) $ by ! (ends 𝓛 En hs c y v (s, p) (tt, tt) (tt, tt) (fact_i 𝓤 _ (emp 𝓤) (refl, refl, refl, refl, refl)))))))
