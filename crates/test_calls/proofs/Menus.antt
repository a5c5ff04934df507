-- Equal menus are written alike, and the components of each SET in a menu have distinct tags.
use Rattle.std.proofs.Common.{rules, ◌≡◌, refl}
use Rattle.asn1_model.specs.DistinctSets.{SetsAreDistinct}
use Rattle.asn1_model.proofs.SameUpToOrder.{SameAll-refl}
use Rattle.asn1_model.specs.WrittenAlike.{AreWrittenAlike}
use Rattle.asn1_slots.proofs.WrittenAlike.{type_alike}
use Rattle.asn1_spelling.proofs.GroupsAlike.{group_alike}
use Rattle.asn1_types.specs.Words.{constructed_agrees}
use Rattle.test_calls.specs.contracts.menu.CoursesDecodeSetByIndex.TheImpl.{ghosts as courses}
use Rattle.test_calls.specs.contracts.menu.CoursesPartialEq.TheImpl.{ghosts as courses_equal}
use Rattle.test_calls.specs.contracts.menu.MenuDecodeSetByIndex.TheImpl.{ghosts as menus}
use Rattle.test_calls.specs.contracts.menu.MenuAsnType.TheImpl.{ghosts as menu_types}
use Rattle.test_calls.specs.contracts.menu.MenuFieldTable.TheImpl.{ghosts as menu_fields}
use Rattle.test_calls.specs.contracts.menu.MenuPartialEq.TheImpl.{ghosts as menus_equal}

pub alike : AreWrittenAlike menu_types.meaning menus_equal.eq
alike =
    type_alike menu_fields.components menus.layout menu_types.meaning menus_equal.eq (λ are. are) constructed_agrees (
      (λ can v w same. (let one : v ≡ w = search rules in rw one (SameAll-refl _))),
      (
        group_alike courses.layout courses_equal.eq (
          (λ can v w same. (let one : v ≡ w = search rules in rw one (SameAll-refl _))),
          ((λ can v w same. (let one : v ≡ w = search rules in rw one (SameAll-refl _))), tt),
        )
            (λ v w. refl),
        tt,
      ),
    )
    (λ v w. refl)

pub distinct : SetsAreDistinct menu_types.meaning
distinct = search rules
