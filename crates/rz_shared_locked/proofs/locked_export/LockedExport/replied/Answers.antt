use Rattle.std.proofs.Common.{◌≡◌, ◌<◌, ◌-◌, ◌^◌, true, IsTrue, List, ◌∷◌, ◌++◌, length, None, sym, ap, ◌∙◌, subst}
use Rattle.std.specs.Prelude.{is_some}
use Rattle.rz_events.specs.declared.keys.Actor.{Actor}
use Rattle.rz_events.specs.declared.events.Word.{Word}
use Rattle.rz_events.specs.declared.events.Word.TheVariants as w
use Rattle.rz_events.specs.declared.events.Event.{Event}
use Rattle.rz_events.specs.Events.{by_of, word_of}
use Rattle.rz_events.specs.Borrowed.{call_of}
use Rattle.rz_export_model.specs.Export.{export_reply, export_after, is_proper}
use Rattle.rz_core.specs.History.{of_word}
use Rattle.rz_core.specs.Legal.{IsLegalAfter}
use Rattle.rz_metadata.specs.Stands.{export_in, refusal_of}
use Rattle.rz_chronicle.specs.Keys.{word_key}
use Rattle.rz_chronicle.specs.Kinds.{keeps_legal, volume_in}
use Rattle.rz_chronicle.specs.Holds.{Commits}
use Rattle.rz_shared_locked.specs.Adding.{MayBeNext}
use Rattle.rz_shared_locked.specs.LockedExports.{AreTextsOfBytes, AreMetadataOf, event_given, faults_of}
use Rattle.rz_shared_locked.proofs.LockedExports.{its-event, may-come, tied-after, calls-after, replied-so}
use Rattle.rz_shared_locked.proofs.Journaled.{open-metadata, tied-metadata, replied-metadata, unreplied-metadata, none-refused, never-refused, lacks-memory}
use Rattle.rz_shared_locked.proofs.Logs.{none-added}
use Rattle.rz_shared_locked.proofs.Texts.{bytes-after, bytes-behind}
use Rattle.rz_shared_locked.proofs.locked_export.LockedExport.replied.Goals as goal

pub returns-then-is_some-clause-texts : goal.returns-then-is_some-clause-texts
returns-then-is_some-clause-texts g c = λ keeps. bytes-behind c.args.pass.now.log g.J.Naming.earlier (subst AreTextsOfBytes (c.self.view_is ∙ c.requires.one) c.self.invariant.5) (c.self.invariant.6 keeps)

pub add_reply-requires-clause-its : goal.add_reply-requires-clause-its
add_reply-requires-clause-its g c =
    let kind = g.J.Naming.kind in
    let v = volume_in kind in
    let disk = g.D.Disk in
    let base = faults_of g.J.Metering.journal in
    let q = call_of c.args.call in
    let h = c.args.pass.now.log in
    let m = c.self.inside.metadata in
    let inv = c.self.invariant in
    let log : c.self.inside.word_token.log ≡ h = c.self.view_is ∙ c.requires.one in
    let earlier = g.J.Naming.earlier in
    let none : refusal_of m ≡ None = none-refused (refusal_of m) (ap is_some (sym c.refusal.ensures) ∙ sym c.is_some.ensures ∙ c.if-is_some.false) in
    let was = subst (λ (l : List Event). AreMetadataOf (refusal_of m) disk.tells disk.meter disk.image base kind (l ++ earlier) m) log inv.3 in
    let given = c.in-Ok.reply in
    let by = c.args.pass.now.actor in
    let s = export_in m in
    let new_s = export_in c.reply.new.self in
    let tied = tied-metadata disk.tells disk.meter disk.image base kind earlier h q m c.reply.new.self was none in
    let done : (given ≡ export_reply s q) × (new_s ≡ export_after s q) = (c.in-Ok.ensures.reply, c.in-Ok.ensures.after) in
    let room : length (of_word w.Export (h ++ earlier)) < 2 ^ 64 - 1 = subst (λ (l : List Event). length (of_word w.Export (l ++ earlier)) < 2 ^ 64 - 1) c.requires.one
    (c.roomy.ensures kind w.Export c.args.self.now earlier c.actor-by.ensures.earlier c.requires.room) in
    let fit : IsTrue (keeps_legal kind) → IsLegalAfter v earlier h = λ keeps. c.one_rule.ensures.legal kind earlier h c.actor-by.ensures.earlier keeps (c.actor-by.ensures.fit, c.actor-by.ensures.after) in
    subst (λ (a : Actor). (word_of (event_given a q given) ≡ c.self.inside.word_token.word) × (by_of (event_given a q given) ≡ by)) (sym c.actor-by.ensures.value)
    (subst (λ (u : Word). (word_of (event_given by q given) ≡ u) × (by_of (event_given by q given) ≡ by)) (sym inv.0)
    (its-event kind earlier h by q given s new_s (c.replies.ensures v) (c.locked_export_kept.ensures v) fit inv.1 tied room c.requires.may done))

pub add_reply-requires-clause-legal : goal.add_reply-requires-clause-legal
add_reply-requires-clause-legal g c =
    let kind = g.J.Naming.kind in
    let v = volume_in kind in
    let disk = g.D.Disk in
    let base = faults_of g.J.Metering.journal in
    let q = call_of c.args.call in
    let h = c.args.pass.now.log in
    let m = c.self.inside.metadata in
    let inv = c.self.invariant in
    let log : c.self.inside.word_token.log ≡ h = c.self.view_is ∙ c.requires.one in
    let earlier = g.J.Naming.earlier in
    let none : refusal_of m ≡ None = none-refused (refusal_of m) (ap is_some (sym c.refusal.ensures) ∙ sym c.is_some.ensures ∙ c.if-is_some.false) in
    let was = subst (λ (l : List Event). AreMetadataOf (refusal_of m) disk.tells disk.meter disk.image base kind (l ++ earlier) m) log inv.3 in
    let given = c.in-Ok.reply in
    let by = c.args.pass.now.actor in
    let s = export_in m in
    let new_s = export_in c.reply.new.self in
    let tied = tied-metadata disk.tells disk.meter disk.image base kind earlier h q m c.reply.new.self was none in
    let done : (given ≡ export_reply s q) × (new_s ≡ export_after s q) = (c.in-Ok.ensures.reply, c.in-Ok.ensures.after) in
    let room : length (of_word w.Export (h ++ earlier)) < 2 ^ 64 - 1 = subst (λ (l : List Event). length (of_word w.Export (l ++ earlier)) < 2 ^ 64 - 1) c.requires.one
    (c.roomy.ensures kind w.Export c.args.self.now earlier c.actor-by.ensures.earlier c.requires.room) in
    let fit : IsTrue (keeps_legal kind) → IsLegalAfter v earlier h = λ keeps. c.one_rule.ensures.legal kind earlier h c.actor-by.ensures.earlier keeps (c.actor-by.ensures.fit, c.actor-by.ensures.after) in
    subst (λ (a : Actor). MayBeNext kind earlier h (event_given a q given)) (sym c.actor-by.ensures.value)
    (may-come kind earlier h by q given s new_s (c.replies.ensures v) (c.locked_export_kept.ensures v) fit inv.1 tied room c.requires.may done)

pub invariant_of-self : goal.invariant_of-self
invariant_of-self g c =
    let kind = g.J.Naming.kind in
    let v = volume_in kind in
    let disk = g.D.Disk in
    let base = faults_of g.J.Metering.journal in
    let q = call_of c.args.call in
    let h = c.args.pass.now.log in
    let m = c.self.inside.metadata in
    let inv = c.self.invariant in
    let log : c.self.inside.word_token.log ≡ h = c.self.view_is ∙ c.requires.one in
    let earlier = g.J.Naming.earlier in
    let none : refusal_of m ≡ None = none-refused (refusal_of m) (ap is_some (sym c.refusal.ensures) ∙ sym c.is_some.ensures ∙ c.if-is_some.false) in
    let was = subst (λ (l : List Event). AreMetadataOf (refusal_of m) disk.tells disk.meter disk.image base kind (l ++ earlier) m) log inv.3 in
    let given = c.in-Ok.reply in
    let by = c.args.pass.now.actor in
    let s = export_in m in
    let new_s = export_in c.reply.new.self in
    let tied = tied-metadata disk.tells disk.meter disk.image base kind earlier h q m c.reply.new.self was none in
    let done : (given ≡ export_reply s q) × (new_s ≡ export_after s q) = (c.in-Ok.ensures.reply, c.in-Ok.ensures.after) in
    let room : length (of_word w.Export (h ++ earlier)) < 2 ^ 64 - 1 = subst (λ (l : List Event). length (of_word w.Export (l ++ earlier)) < 2 ^ 64 - 1) c.requires.one
    (c.roomy.ensures kind w.Export c.args.self.now earlier c.actor-by.ensures.earlier c.requires.room) in
    let fit : IsTrue (keeps_legal kind) → IsLegalAfter v earlier h = λ keeps. c.one_rule.ensures.legal kind earlier h c.actor-by.ensures.earlier keeps (c.actor-by.ensures.fit, c.actor-by.ensures.after) in
    let new = c.add_reply.new.pass.log in
    let ks = c.args.pass.now.keys in
    let it : Commits (word_key w.Export ∷ ks) h (event_given by q given) new =
    subst (λ (a : Actor). Commits (word_key w.Export ∷ ks) h (event_given a q given) new) c.actor-by.ensures.value
    (subst (λ (u : Word). Commits (word_key u ∷ ks) h (event_given c.actor-by.result q given) new) inv.0 c.add_reply.ensures.commits) in
    let new_fit : IsTrue (keeps_legal kind) → IsLegalAfter v earlier new = λ keeps. c.one_rule.ensures.legal kind earlier new c.actor-by.ensures.earlier keeps (c.add_reply.ensures.fit, c.add_reply.ensures.after) in
    let m' = c.reply.new.self in
    let tied' = tied-after kind earlier h by q given s new_s (c.replies.ensures v) (c.locked_export_kept.ensures v) fit inv.1 tied room c.requires.may done ks new it c.actor-by.ensures.own new_fit in
    let calls = calls-after kind earlier h by q given s new_s (c.replies.ensures v) (c.locked_export_kept.ensures v) fit inv.1 tied room c.requires.may done ks new it c.actor-by.ensures.own new_fit (c.calls_added.ensures v) in (
      c.add_reply.ensures.same.2 ∙ inv.0,
      c.reply.ensures.volume ∙ inv.1,
      c.reply.ensures.journal ∙ inv.2,
      subst (λ (l : List Event). AreMetadataOf (refusal_of m') disk.tells disk.meter disk.image base kind (l ++ earlier) m') (sym c.add_reply.ensures.one)
          (replied-metadata disk.tells disk.meter disk.image base kind earlier h q m m' was none given new c.in-Ok.ensures.open c.in-Ok.ensures.kept tied' calls),
      c.reply.ensures.counted (open-metadata disk.tells disk.meter disk.image base kind earlier h q m m' was none) base inv.4,
      subst AreTextsOfBytes (sym c.add_reply.ensures.one) (bytes-after by q given ks h new c.look_into.ensures (subst AreTextsOfBytes log inv.5) it),
      inv.6,
    )

pub invariant_of-self-in-Err : goal.invariant_of-self-in-Err
invariant_of-self-in-Err g c =
    let kind = g.J.Naming.kind in
    let v = volume_in kind in
    let disk = g.D.Disk in
    let base = faults_of g.J.Metering.journal in
    let q = call_of c.args.call in
    let h = c.args.pass.now.log in
    let m = c.self.inside.metadata in
    let inv = c.self.invariant in
    let log : c.self.inside.word_token.log ≡ h = c.self.view_is ∙ c.requires.one in
    let earlier = g.J.Naming.earlier in
    let none : refusal_of m ≡ None = none-refused (refusal_of m) (ap is_some (sym c.refusal.ensures) ∙ sym c.is_some.ensures ∙ c.if-is_some.false) in
    let was = subst (λ (l : List Event). AreMetadataOf (refusal_of m) disk.tells disk.meter disk.image base kind (l ++ earlier) m) log inv.3 in
    let m' = c.reply.new.self in (
      inv.0,
      c.reply.ensures.volume ∙ inv.1,
      c.reply.ensures.journal ∙ inv.2,
      subst (λ (l : List Event). AreMetadataOf (refusal_of m') disk.tells disk.meter disk.image base kind (l ++ earlier) m') (sym log)
          (unreplied-metadata disk.tells disk.meter disk.image base kind earlier h q m m' was none c.in-Err.ensures.left c.in-Err.ensures.refused c.in-Err.ensures.unkept),
      c.reply.ensures.counted (open-metadata disk.tells disk.meter disk.image base kind earlier h q m m' was none) base inv.4,
      inv.5,
      inv.6,
    )

pub returns-in-Ok-clause-replied : goal.returns-in-Ok-clause-replied
returns-in-Ok-clause-replied g c =
    let kind = g.J.Naming.kind in
    let v = volume_in kind in
    let disk = g.D.Disk in
    let base = faults_of g.J.Metering.journal in
    let q = call_of c.args.call in
    let h = c.args.pass.now.log in
    let m = c.self.inside.metadata in
    let inv = c.self.invariant in
    let log : c.self.inside.word_token.log ≡ h = c.self.view_is ∙ c.requires.one in
    let earlier = g.J.Naming.earlier in
    let none : refusal_of m ≡ None = none-refused (refusal_of m) (ap is_some (sym c.refusal.ensures) ∙ sym c.is_some.ensures ∙ c.if-is_some.false) in
    let was = subst (λ (l : List Event). AreMetadataOf (refusal_of m) disk.tells disk.meter disk.image base kind (l ++ earlier) m) log inv.3 in
    let given = c.in-Ok.reply in
    let by = c.args.pass.now.actor in
    let s = export_in m in
    let new_s = export_in c.reply.new.self in
    let tied = tied-metadata disk.tells disk.meter disk.image base kind earlier h q m c.reply.new.self was none in
    let done : (given ≡ export_reply s q) × (new_s ≡ export_after s q) = (c.in-Ok.ensures.reply, c.in-Ok.ensures.after) in
    let room : length (of_word w.Export (h ++ earlier)) < 2 ^ 64 - 1 = subst (λ (l : List Event). length (of_word w.Export (l ++ earlier)) < 2 ^ 64 - 1) c.requires.one
    (c.roomy.ensures kind w.Export c.args.self.now earlier c.actor-by.ensures.earlier c.requires.room) in
    let fit : IsTrue (keeps_legal kind) → IsLegalAfter v earlier h = λ keeps. c.one_rule.ensures.legal kind earlier h c.actor-by.ensures.earlier keeps (c.actor-by.ensures.fit, c.actor-by.ensures.after) in
    let new = c.add_reply.new.pass.log in
    let ks = c.args.pass.now.keys in
    let it : Commits (word_key w.Export ∷ ks) h (event_given by q given) new =
    subst (λ (a : Actor). Commits (word_key w.Export ∷ ks) h (event_given a q given) new) c.actor-by.ensures.value
    (subst (λ (u : Word). Commits (word_key u ∷ ks) h (event_given c.actor-by.result q given) new) inv.0 c.add_reply.ensures.commits) in
    let new_fit : IsTrue (keeps_legal kind) → IsLegalAfter v earlier new = λ keeps. c.one_rule.ensures.legal kind earlier new c.actor-by.ensures.earlier keeps (c.add_reply.ensures.fit, c.add_reply.ensures.after) in
    replied-so kind earlier h by q given s new_s (c.replies.ensures v) (c.locked_export_kept.ensures v) fit inv.1 tied room c.requires.may done ks new it c.actor-by.ensures.own new_fit

pub returns-in-Ok-clause-bytes : goal.returns-in-Ok-clause-bytes
returns-in-Ok-clause-bytes g c =
    let kind = g.J.Naming.kind in
    let v = volume_in kind in
    let disk = g.D.Disk in
    let base = faults_of g.J.Metering.journal in
    let q = call_of c.args.call in
    let h = c.args.pass.now.log in
    let m = c.self.inside.metadata in
    let inv = c.self.invariant in
    let log : c.self.inside.word_token.log ≡ h = c.self.view_is ∙ c.requires.one in
    let earlier = g.J.Naming.earlier in
    let given = c.in-Ok.reply in
    let by = c.args.pass.now.actor in
    let new = c.add_reply.new.pass.log in
    let ks = c.args.pass.now.keys in
    let it : Commits (word_key w.Export ∷ ks) h (event_given by q given) new =
    subst (λ (a : Actor). Commits (word_key w.Export ∷ ks) h (event_given a q given) new) c.actor-by.ensures.value
    (subst (λ (u : Word). Commits (word_key u ∷ ks) h (event_given c.actor-by.result q given) new) inv.0 c.add_reply.ensures.commits) in
    bytes-after by q given ks h new c.look_into.ensures (subst AreTextsOfBytes log inv.5) it

pub returns-in-Ok-clause-texts : goal.returns-in-Ok-clause-texts
returns-in-Ok-clause-texts g c = λ keeps.
    let kind = g.J.Naming.kind in
    let v = volume_in kind in
    let disk = g.D.Disk in
    let base = faults_of g.J.Metering.journal in
    let q = call_of c.args.call in
    let h = c.args.pass.now.log in
    let m = c.self.inside.metadata in
    let inv = c.self.invariant in
    let log : c.self.inside.word_token.log ≡ h = c.self.view_is ∙ c.requires.one in
    let earlier = g.J.Naming.earlier in
    let given = c.in-Ok.reply in
    let by = c.args.pass.now.actor in
    let new = c.add_reply.new.pass.log in
    let ks = c.args.pass.now.keys in
    let it : Commits (word_key w.Export ∷ ks) h (event_given by q given) new =
    subst (λ (a : Actor). Commits (word_key w.Export ∷ ks) h (event_given a q given) new) c.actor-by.ensures.value
    (subst (λ (u : Word). Commits (word_key u ∷ ks) h (event_given c.actor-by.result q given) new) inv.0 c.add_reply.ensures.commits) in
    bytes-behind new earlier (bytes-after by q given ks h new c.look_into.ensures (subst AreTextsOfBytes log inv.5) it) (inv.6 keeps)

pub returns-in-Err-clause-texts : goal.returns-in-Err-clause-texts
returns-in-Err-clause-texts g c = λ keeps. bytes-behind c.args.pass.now.log g.J.Naming.earlier (subst AreTextsOfBytes (c.self.view_is ∙ c.requires.one) c.self.invariant.5) (c.self.invariant.6 keeps)

pub returns-then-is_some-clause-unanswered : goal.returns-then-is_some-clause-unanswered
returns-then-is_some-clause-unanswered g c =
    let m = c.self.inside.metadata in
    record {
      adds = none-added c.args.pass.now.keys c.args.pass.now.log;
      wanting = λ none. absurd (never-refused m (c.self.invariant.2 ∙ ap is_some none) (ap is_some (sym c.refusal.ensures) ∙ sym c.is_some.ensures ∙ c.if-is_some.true));
    }

pub returns-in-Err-clause-unanswered : goal.returns-in-Err-clause-unanswered
returns-in-Err-clause-unanswered g c =
    let kind = g.J.Naming.kind in
    let v = volume_in kind in
    let disk = g.D.Disk in
    let base = faults_of g.J.Metering.journal in
    let q = call_of c.args.call in
    let h = c.args.pass.now.log in
    let m = c.self.inside.metadata in
    let inv = c.self.invariant in
    let log : c.self.inside.word_token.log ≡ h = c.self.view_is ∙ c.requires.one in
    let earlier = g.J.Naming.earlier in
    let none : refusal_of m ≡ None = none-refused (refusal_of m) (ap is_some (sym c.refusal.ensures) ∙ sym c.is_some.ensures ∙ c.if-is_some.false) in
    let was = subst (λ (l : List Event). AreMetadataOf (refusal_of m) disk.tells disk.meter disk.image base kind (l ++ earlier) m) log inv.3 in
    let proper : is_proper (export_in m) q ≡ true = sym c.takes.ensures ∙ c.if-not-takes.false in
    record {
      adds = none-added c.args.pass.now.keys h;
      wanting = λ unkept. record {
        state = export_in m;
        of_volume = inv.1;
        may = lacks-memory m c.reply.new.self q (inv.2 ∙ ap is_some unkept) c.reply.ensures.journal (c.in-Err.ensures.wanting proper);
        tied = tied-metadata disk.tells disk.meter disk.image base kind earlier h q m c.reply.new.self was none;
      };
    }
