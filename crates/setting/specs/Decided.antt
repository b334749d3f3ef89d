-- Whether chart, results and map keep their lines is decided.
-- Assumes nothing.
use Rattle.std.specs.Prelude.{ℕ, ◌+◌, ◌*◌}
use Rattle.std.proofs.Common.{arith}
use Rattle.std.proofs.Math.Decide.{dec_le, dec_lt, ℕ_discrete}
use Rattle.position.specs.Board.{Chart, Results, Map}
use Rattle.position.specs.Ground.{beside, stored}
use Rattle.position.specs.Shape.{In}
use Rattle.position.specs.Layout.{die_faces}
use Rattle.setting.specs.Setting.{TerrainOk, ColumnOk, RisingOk, ResultsOk, EdgeOk, HexOk, MapOk}
use Rattle.setting.specs.Decide.{iff, both, given, below, off?}

unfoldable pub in? : (lo n hi : ℕ) → Dec (In lo n hi)
in? lo n hi =
    iff (λ x. record { low = x.0; high = x.1 }) (λ s. (s.low, s.high)) (both (dec_le lo n) (dec_le n hi))

unfoldable pub terrain? : (c : Chart) (t : ℕ) → Dec (TerrainOk c t)
terrain? c t =
    iff (λ x. record { cost = x.0; multiple = x.1 }) (λ s. (s.cost, s.multiple))
    (both (dec_le (c.cost t) 9) (in? 1 (c.multiple t) 4))

unfoldable pub column? : (r : Results) (c : ℕ) → Dec (ColumnOk r c)
column? r c =
    iff (λ x. record { attack = x.0; defence = x.1.0; codes = x.1.1 }) (λ s. (s.attack, (s.defence, s.codes)))
    (both (in? 1 (r.attack c) 20)
    (both (in? 1 (r.defence c) 20) (below (λ die. in? 1 (r.code c (die + 1)) 10) die_faces)))

unfoldable pub rising? : (r : Results) (c : ℕ) → Dec (RisingOk r c)
rising? r c =
    iff (λ x. record { rising = x }) (λ s. s.rising)
    (dec_lt (r.attack c * r.defence (c + 1)) (r.attack (c + 1) * r.defence c))

unfoldable pub results? : (r : Results) → Dec (ResultsOk r)
results? r =
    iff (λ x. record { columns = x.0; rising = λ c l. x.1 c (omega arith) l })
    (λ s. (s.columns, λ c l m. s.rising c m))
    (both (below (column? r) r.columns)
    (below (λ c. given (dec_lt (c + 1) r.columns) (rising? r c)) r.columns))

unfoldable pub hex? : (m : Map) (h : ℕ) → Dec (HexOk m h)
hex? m h =
    iff
    (λ x.
    record {
      terrain = x.0;
      surface = x.1.0;
      flags = x.1.1.0;
      country = x.1.1.1.0;
      sides = x.1.1.1.1;
    })
    (λ s. (s.terrain, (s.surface, (s.flags, (s.country, s.sides)))))
    (both (dec_le (m.terrain h) 15)
    (both (dec_le (m.surface h) 3)
    (both (dec_le (m.flags h) 7) (both (dec_le (m.country h) 2) (dec_lt (m.sides h) 64)))))

unfoldable pub edge? : (m : Map) (h d : ℕ) → Dec (EdgeOk m h d)
edge? m h d =
    iff (λ x. record { plain = x }) (λ s. s.plain) (given (off? (beside m h d)) (ℕ_discrete (stored m h d) 0))

unfoldable pub map? : (m : Map) → Dec (MapOk m)
map? m =
    iff (λ x. record { area = x.0; hexes = x.1.0; edges = x.1.1 }) (λ s. (s.area, (s.hexes, s.edges)))
    (both (ℕ_discrete m.hexes (m.width * m.height))
    (both (below (hex? m) m.hexes) (below (λ h. below (edge? m h) 3) m.hexes)))
