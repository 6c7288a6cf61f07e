-- A write has ended exactly as its answers say.
use Rattle.std.proofs.Common.{◌≡◌, ◌+◌, ◌≤◌, true, false, List, [], ◌∷◌, Some, arith, ap, ◌∙◌, sym, refl, subst}
use Rattle.std.specs.Prelude.{◌↔◌}
use Rattle.mj_angles.specs.declared.layout.Layout.{Layout}
use Rattle.mj_angles.specs.Layout.{forward_of, safe_of}
use Rattle.rz_events.specs.declared.ends.WriteEnd.{WriteEnd}
use Rattle.rz_events.specs.declared.ends.WriteEnd.TheVariants as end
use Rattle.rz_events.specs.declared.machines.WriterAnswer.{WriterAnswer}
use Rattle.rz_events.specs.declared.machines.WriterAnswer.TheVariants as told
use Rattle.rz_client_model.specs.declared.writing.WriterState.{WriterState}
use Rattle.rz_client_model.specs.declared.writing.WriteStage.{WriteStage}
use Rattle.rz_client_model.specs.declared.writing.WriteStage.TheVariants.{Beginning, Sending, Ended}
use Rattle.rz_client_model.specs.Write.{writer_end, end_at}
use Rattle.rz_block_io_laws.specs.Writes.{failed_in, IsNewest, IsEndAfter, EndsExactly}
use Rattle.rz_block_io_laws.proofs.WriteCourse.{stage_after, after-is, IsCourse, IsGoing, IsOverSo, is_going, going-newest, newest-same, course}

-- while a write goes on no end was told
going-not : (answers : List WriterAnswer) (a : WriterAnswer) → is_going a ≡ false → IsGoing answers → IsNewest a answers → ⊥
going-not answers a over going newest = let on : is_going a ≡ true = going-newest answers a going newest in let e : false ≡ true = sym over ∙ on in cc

not-yet : (layout : Layout) (answers : List WriterAnswer) (e : WriteEnd) → IsGoing answers → failed_in answers + forward_of layout ≤ safe_of layout →
    IsEndAfter layout answers e → ⊥
not-yet layout answers (end.Acked stamp mask) going few q = going-not answers told.Accepted refl going q.0
not-yet layout answers (end.TooFew why) going few q = omega (arith, few, q.0)
not-yet layout answers (end.Denied denial) going few q = going-not answers (told.Denied denial) refl going q
not-yet layout answers (end.Revoked later) going few q = going-not answers (told.Revoked later) refl going q

not-first : (layout : Layout) (answers : List WriterAnswer) (e : WriteEnd) → answers ≡ [] → IsEndAfter layout answers e → ⊥
not-first layout [] (end.Acked stamp mask) is q = q.0
not-first layout [] (end.TooFew why) is q = omega (arith, q.0)
not-first layout [] (end.Denied denial) is q = q
not-first layout [] (end.Revoked later) is q = q
not-first layout (x ∷ xs) e is q = cc

-- one end alone is told
over-same : (layout : Layout) (answers : List WriterAnswer) (e e' : WriteEnd) → IsEndAfter layout answers e → IsOverSo layout answers e →
    IsEndAfter layout answers e' → e ≡ e'
over-same layout answers (end.TooFew w) (end.TooFew w') p so q = ap (λ why. end.TooFew why) (p.1 ∙ sym q.1)
over-same layout answers (end.TooFew w) (end.Acked stamp mask) p so q = absurd (going-not answers told.Accepted refl so q.0)
over-same layout answers (end.TooFew w) (end.Denied denial) p so q = absurd (going-not answers (told.Denied denial) refl so q)
over-same layout answers (end.TooFew w) (end.Revoked later) p so q = absurd (going-not answers (told.Revoked later) refl so q)
over-same layout answers (end.Acked stamp mask) (end.Acked stamp' mask') p so q =
    let s : stamp ≡ stamp' = p.1 ∙ sym q.1 in let m : mask ≡ mask' = p.2 ∙ sym q.2 in cc
over-same layout answers (end.Acked stamp mask) (end.TooFew w) p so q = absurd (omega (arith, so, q.0))
over-same layout answers (end.Acked stamp mask) (end.Denied denial) p so q =
    let e : told.Accepted ≡ told.Denied denial = newest-same answers _ _ p.0 q in cc
over-same layout answers (end.Acked stamp mask) (end.Revoked later) p so q =
    let e : told.Accepted ≡ told.Revoked later = newest-same answers _ _ p.0 q in cc
over-same layout answers (end.Denied denial) (end.TooFew w) p so q = absurd (omega (arith, so, q.0))
over-same layout answers (end.Denied denial) (end.Acked stamp mask) p so q =
    let e : told.Denied denial ≡ told.Accepted = newest-same answers _ _ p q.0 in cc
over-same layout answers (end.Denied denial) (end.Denied denial') p so q =
    let e : told.Denied denial ≡ told.Denied denial' = newest-same answers _ _ p q in cc
over-same layout answers (end.Denied denial) (end.Revoked later) p so q =
    let e : told.Denied denial ≡ told.Revoked later = newest-same answers _ _ p q in cc
over-same layout answers (end.Revoked later) (end.TooFew w) p so q = absurd (omega (arith, so, q.0))
over-same layout answers (end.Revoked later) (end.Acked stamp mask) p so q =
    let e : told.Revoked later ≡ told.Accepted = newest-same answers _ _ p q.0 in cc
over-same layout answers (end.Revoked later) (end.Denied denial) p so q =
    let e : told.Revoked later ≡ told.Denied denial = newest-same answers _ _ p q in cc
over-same layout answers (end.Revoked later) (end.Revoked later') p so q =
    let e : told.Revoked later ≡ told.Revoked later' = newest-same answers _ _ p q in cc

ends-at : (layout : Layout) (answers : List WriterAnswer) (stage : WriteStage) → IsCourse layout answers stage → (e : WriteEnd) →
    (end_at stage ≡ Some e) ↔ IsEndAfter layout answers e
ends-at layout answers Beginning h e = (λ q. cc, λ q. absurd (not-first layout answers e h q))
ends-at layout answers (Sending t) h e =
    (λ q. cc, λ q. absurd (not-yet layout answers e h.going (omega (arith, h.kept_is, h.asked_is, h.spare)) q))
ends-at layout answers (Ended over) h e = (
  λ q. let same : over ≡ e = cc in subst (λ (x : WriteEnd). IsEndAfter layout answers x) same h.0,
  λ q. ap (λ x. Some x) (over-same layout answers over e h.0 h.1 q),
)

pub ends-exactly : EndsExactly
ends-exactly layout key places size answers h e =
    subst (λ (s : WriterState). (writer_end s ≡ Some e) ↔ IsEndAfter layout answers e) (sym (after-is layout key places size answers))
    (ends-at layout answers (stage_after layout answers) (course layout key places size answers h) e)
