-- In every world of a play each operation holds what it has to, and no two locks conflict.
use Rattle.std.proofs.Common.{◌≡◌, ℕ, Bool, true, false, cond, List, [], ◌∷◌, ◌++◌, drop, refl, sym, ◌∙◌, ap, subst, append_assoc}
use Rattle.std.specs.List.{AllByRecursion}
use Rattle.rz_events.specs.Volume.{Volume}
use Rattle.rz_events.specs.declared.keys.Actor.{Actor}
use Rattle.rz_events.specs.declared.keys.Actor.TheVariants.{Admin}
use Rattle.rz_events.specs.declared.events.Event.{Event}
use Rattle.rz_events.specs.Events.{same_actor}
use Rattle.rz_events.specs.declared.operations.Operation.{Operation}
use Rattle.rz_node_model.specs.States.{NodeState}
use Rattle.rz_export_model.specs.Export.{Export}
use Rattle.rz_play.specs.World.{World, Agenda, world_after, with_agenda}
use Rattle.rz_play.specs.Lines.{with_operation, with_miss}
use Rattle.rz_play_laws.proofs.Scripts.{seated}
use Rattle.rz_script.specs.Lines.{IsActor}
use Rattle.rz_play_laws.proofs.Frames.{AreBy, of_actor-other, same_actor-true, same_actor-refl}
use Rattle.rz_play_locks.specs.Holding.{IsAgendaOf, IsKeeping}
use Rattle.rz_play_locks.proofs.Kept.{agenda-frame}
use Rattle.rz_play_locks.proofs.Carried.{IsAdmins}

module _ (v : Volume) (ops : Actor → List Operation) where
  -- a line that changes one agenda, but neither its lock nor what it has in hand
  agenda-line : (more now : Actor → List Operation) (by : Actor) (t : Agenda) (run : List Event) (w : World) → t.lock ≡ (w.agendas by).lock
      → (IsActor by → IsAgendaOf v.layout ops run by (now by) (w.agendas by) → IsAgendaOf v.layout ops run by (more by) t)
      → ((a : Actor) → same_actor a by ≡ false → now a ≡ more a)
      → IsKeeping v.layout ops now run w → IsKeeping v.layout ops more run (with_agenda w by t)
  agenda-line more now by t run w same agenda others k = record {
    apart = λ a b x y ok_a ok_b other at_a at_b. k.apart a b x y ok_a ok_b other (sym (lock-of a (same_actor a by) refl) ∙ at_a) (sym (lock-of b (same_actor b by) refl) ∙ at_b);
    agendas = λ a ok. agenda-of a ok (same_actor a by) refl;
  }
    where
      lock-of : (a : Actor) (b : Bool) → same_actor a by ≡ b → (cond b t (w.agendas a)).lock ≡ (w.agendas a).lock
      lock-of a true is = same ∙ ap (λ z. (w.agendas z).lock) (sym (same_actor-true a by is))
      lock-of a false is = refl

      agenda-of : (a : Actor) → IsActor a → (b : Bool) → same_actor a by ≡ b → IsAgendaOf v.layout ops run a (more a) (cond b t (w.agendas a))
      agenda-of a ok true is =
          let at : a ≡ by = same_actor-true a by is in
          subst (λ z. IsAgendaOf v.layout ops run z (more z) t) (sym at) (agenda (subst IsActor at ok) (k.agendas by (subst IsActor at ok)))
      agenda-of a ok false is = subst (λ (z : List Operation). IsAgendaOf v.layout ops run a z (w.agendas a)) (others a is) (k.agendas a ok)

  pub keeping-gives : (more : Actor → List Operation) (by : Actor) (op : Operation) (run : List Event) (w : World) → IsKeeping v.layout ops (λ a. cond (same_actor a by) (op ∷ more a) (more a)) run w
      → IsKeeping v.layout ops more run (with_agenda w by (with_operation (w.agendas by) op))
  keeping-gives more by op run w k =
      agenda-line more (λ a. cond (same_actor a by) (op ∷ more a) (more a)) by (with_operation (w.agendas by) op) run w refl
      (λ ok is. record { rest = append_assoc (w.agendas by).todo (op ∷ []) (more by) ∙ mine ok is.rest; hand = is.hand })
      (λ a other. ap (λ b. cond b (op ∷ more a) (more a)) other) k
    where
      mine : IsActor by → (w.agendas by).todo ++ cond (same_actor by by) (op ∷ more by) (more by) ≡ drop (w.agendas by).number (ops by)
          → (w.agendas by).todo ++ op ∷ more by ≡ drop (w.agendas by).number (ops by)
      mine ok is = subst (λ b. (w.agendas by).todo ++ cond b (op ∷ more by) (more by) ≡ drop (w.agendas by).number (ops by)) (self by) is
        where
          self : (a : Actor) → same_actor a a ≡ true
          self a = same_actor-refl a

  pub keeping-misses : (more : Actor → List Operation) (by : Actor) (reply : Bool) (run : List Event) (w : World) → IsKeeping v.layout ops more run w
      → IsKeeping v.layout ops more run (with_agenda w by (with_miss (w.agendas by) reply))
  keeping-misses more by reply run w k =
      agenda-line more more by (with_miss (w.agendas by) reply) run w refl (λ ok is. record { rest = is.rest; hand = is.hand }) (λ a other. refl) k

  admins-by : (xs : List Event) → AllByRecursion IsAdmins xs → AreBy Admin xs
  admins-by [] all = tt
  admins-by (x ∷ xs) all = (all.0.by_is, admins-by xs all.1)

  pub keeping-admins : (more : Actor → List Operation) (run : List Event) (w next : World) (xs : List Event) → AllByRecursion IsAdmins xs → next.agendas ≡ w.agendas
      → IsKeeping v.layout ops more run w → IsKeeping v.layout ops more (xs ++ run) next
  keeping-admins more run w next xs all agendas_are k = record {
    apart = λ a b x y ok_a ok_b other at_a at_b. k.apart a b x y ok_a ok_b other (ap (λ (z : Actor → Agenda). (z a).lock) (sym agendas_are) ∙ at_a) (ap (λ (z : Actor → Agenda). (z b).lock) (sym agendas_are) ∙ at_b);
    agendas = λ a ok.
        subst (λ (z : Agenda). IsAgendaOf v.layout ops (xs ++ run) a (more a) z) (sym (ap (λ (z : Actor → Agenda). z a) agendas_are))
        (agenda-frame v.layout ops run xs a (more a) (w.agendas a) (of_actor-other a Admin xs run (seated a ok) (admins-by xs all)) (k.agendas a ok));
  }

-- a run that has not begun
pub keeping-new : (v : Volume) (ops : Actor → List Operation) (nodes : ℕ → NodeState) (export : Export) (old : List Event) → IsKeeping v.layout ops ops [] (world_after nodes export old)
keeping-new v ops nodes export old = record {
  apart = λ a b x y ok_a ok_b other at_a at_b. cc;
  agendas = λ by ok. record { rest = refl; hand = (refl, refl) };
}
