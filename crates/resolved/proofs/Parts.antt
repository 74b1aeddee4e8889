-- To resolve a statement is to resolve its parts.
use Rattle.std.proofs.Common.{◌≡◌, map, option_map, refl}
use Rattle.language.specs.Tree.{Name, Simple, skip}
use Rattle.language.specs.Parts.{plain, assigns, targets_of, sides_of, test_of, arguments_of, callee_of, gives, jump_of}
use Rattle.language.specs.Resolve.{number_of, Scope, place_of, resolve_expression, resolve_side, resolve_simple}

pub record PartsResolve (s : Scope) (c : Simple Name Name Name) : Type 0 where
  pub assigns : assigns (plain (resolve_simple s c)) ≡ assigns (plain c)
  pub targets : targets_of (plain (resolve_simple s c)) ≡ map (place_of s) (targets_of (plain c))
  pub sides : sides_of (plain (resolve_simple s c)) ≡ map (resolve_side s) (sides_of (plain c))
  pub test : test_of (plain (resolve_simple s c)) ≡ option_map (resolve_side s) (test_of (plain c))
  pub arguments : arguments_of (plain (resolve_simple s c)) ≡ map (resolve_expression s) (arguments_of (plain c))
  pub callee : callee_of (plain (resolve_simple s c)) ≡ option_map (λ (p : Name). number_of p.text s.procedures) (callee_of (plain c))
  pub gives : gives (plain (resolve_simple s c)) ≡ gives (plain c)
  pub jump : jump_of (plain (resolve_simple s c)) ≡ option_map (λ (l : Name). l.text) (jump_of (plain c))

pub parts_resolve : (s : Scope) (c : Simple Name Name Name) → PartsResolve s c
parts_resolve s skip =
    record { assigns = refl; targets = refl; sides = refl; test = refl; arguments = refl; callee = refl; gives = refl; jump = refl }
parts_resolve s _ =
    record { assigns = refl; targets = refl; sides = refl; test = refl; arguments = refl; callee = refl; gives = refl; jump = refl }
