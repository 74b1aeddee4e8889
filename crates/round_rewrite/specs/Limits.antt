-- Numbers of rounds.
use Rattle.std.specs.Prelude.{ℕ, zero, suc, cond, nat_lt}

-- how many rounds there are at most
abbrev pub most_rounds : ℕ
most_rounds = 8

-- how many bits the number of a round takes, by the last round: two for up to four rounds, three for more
abbrev pub round_bits : ℕ → ℕ
round_bits last = cond (nat_lt last 4) 2 3

-- the last of K rounds, which count from 0; of no round it is 0 too
abbrev pub last_round : ℕ → ℕ
last_round zero = zero
last_round (suc n) = n
