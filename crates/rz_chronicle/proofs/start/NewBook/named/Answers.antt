use Rattle.std.proofs.Common.{◌∷◌, ℕ, List, sym, ap₂, ◌∙◌, subst}
use Rattle.rz_chronicle.proofs.Dealing.{AreNone, zeros-none}
use Rattle.rz_chronicle.specs.Keys.{rows}
use Rattle.rz_chronicle.proofs.Numbers.{fits-nothing}
use Rattle.rz_chronicle.proofs.Dealt.{export-held, nodes-held, admin-held, clients-held, rebuilders-held}
use Rattle.rz_chronicle.proofs.start.NewBook.named.Goals as goal

pub invariant_of-dealer : goal.invariant_of-dealer
invariant_of-dealer g c = (
  c.requires.names.0,
  c.args.self.names ∙ ap₂ (λ (a : ℕ) (r : List ℕ). a ∷ r) c.requires.names.1 (ap₂ (λ (a : ℕ) (r : List ℕ). a ∷ r) c.requires.names.2 c.requires.names.3),
  c.args.self.empty,
  c.requires.names.1,
  c.requires.names.2,
  c.requires.names.3,
  c.args.self.none,
  subst AreNone (sym c.args.self.all) (zeros-none 0 rows),
  c.requires.earlier,
  fits-nothing g.J.Naming.kind g.J.Naming.earlier c.requires.earlier c.requires.legal,
)

pub word_token-export-requires-clause-held : goal.word_token-export-requires-clause-held
word_token-export-requires-clause-held g c = export-held c.args.self.tokens.held c.args.self.all

pub word_tokens-requires-clause-held : goal.word_tokens-requires-clause-held
word_tokens-requires-clause-held g c = nodes-held c.args.self.tokens.held c.word_token-export.result.1 c.args.self.all c.word_token-export.ensures.rest

pub pass-admin-requires-clause-held : goal.pass-admin-requires-clause-held
pass-admin-requires-clause-held g c = admin-held c.args.self.tokens.held c.word_token-export.result.1 c.in_ok-word_tokens.dealer c.args.self.all c.word_token-export.ensures.rest c.in_ok-word_tokens.ensures.rest

pub clients-requires : goal.clients-requires
clients-requires g c =
    clients-held c.args.self.tokens.held c.word_token-export.result.1 c.in_ok-word_tokens.dealer c.pass-admin.result.1 c.args.self.all c.word_token-export.ensures.rest c.in_ok-word_tokens.ensures.rest c.pass-admin.ensures.rest

pub rebuilders-requires : goal.rebuilders-requires
rebuilders-requires g c =
    rebuilders-held c.args.self.tokens.held c.word_token-export.result.1 c.in_ok-word_tokens.dealer c.pass-admin.result.1 c.in_ok-clients.dealer c.args.self.all c.word_token-export.ensures.rest c.in_ok-word_tokens.ensures.rest c.pass-admin.ensures.rest
    c.in_ok-clients.ensures.rest
