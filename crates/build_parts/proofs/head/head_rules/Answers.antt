use Rattle.std.proofs.Common.{◌≡◌, ◌∙◌, [], ◌∷◌}
use Rattle.build_parts.proofs.head.head_rules.Goals as goal

six : {X : Type 0} {a b c d e f a' b' c' d' e' f' : X} → a ≡ a' → b ≡ b' → c ≡ c' → d ≡ d' → e ≡ e' → f ≡ f'
    → a ∷ b ∷ c ∷ d ∷ e ∷ f ∷ [] ≡ a' ∷ b' ∷ c' ∷ d' ∷ e' ∷ f' ∷ []
six p q r s t u = λ i. p i ∷ q i ∷ r i ∷ s i ∷ t i ∷ u i ∷ []

pub returns : goal.returns
returns c =
    c.in_ok-from_array.ensures.items
    ∙ six c.in_ok-compile_rule.ensures c.in_ok-compile_rule-2.ensures c.in_ok-assemble_rule.ensures
    c.in_ok-archive_rule.ensures c.in_ok-link_rule.ensures c.in_ok-link_rule-2.ensures
