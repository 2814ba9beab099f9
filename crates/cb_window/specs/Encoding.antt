-- How what is kept is written as a number.
use Rattle.std.specs.Prelude.{ℕ, refl}
use Rattle.std.specs.Coded.{Coded, code_by, coded×, coded_ℕ, coded_list}
use Rattle.std.specs.FinMap as map
use Rattle.std.specs.FinSet as set
use Rattle.cb_model.specs.contracts.node.NodeName as node_name
use Rattle.cb_model.specs.NodeOrder.{node_cmp}
use Rattle.cb_model.specs.Order.{name_cmp}
use Rattle.cb_log.specs.Kept.{Kept, OpenWindow}

abbrev pub open_encoding : Coded OpenWindow
open_encoding = code_by (ℕ × set.FinSet node_cmp) (coded× coded_ℕ (set.code node_name.the_row.coded)) (λ o. (o.opened, o.nodes)) (λ p. record { opened = p.0; nodes = p.1 }) (λ _. refl)

abbrev pub kept_encoding : Coded Kept
kept_encoding =
    code_by
    (ℕ × (ℕ × map.FinMap name_cmp OpenWindow))
    (coded× coded_ℕ (coded× coded_ℕ (map.code (coded_list coded_ℕ) open_encoding)))
    (λ k. (k.length, (k.now, k.windows)))
    (λ p. record { length = p.0; now = p.1.0; windows = p.1.1 })
    (λ _. refl)
