-- The bytes of a text that have a meaning of their own, by name (ASCII).
use Rattle.std.specs.Prelude.{ℕ}

-- a byte that ends a line
abbrev pub line_feed : ℕ
line_feed = 10

-- a space
abbrev pub space : ℕ
space = 32

-- (
abbrev pub open_paren : ℕ
open_paren = 40

-- )
abbrev pub close_paren : ℕ
close_paren = 41

-- *
abbrev pub star : ℕ
star = 42

-- +
abbrev pub plus_sign : ℕ
plus_sign = 43

-- ,
abbrev pub comma_byte : ℕ
comma_byte = 44

-- -
abbrev pub minus_sign : ℕ
minus_sign = 45

-- .
abbrev pub dot : ℕ
dot = 46

-- 0
abbrev pub digit_0 : ℕ
digit_0 = 48

-- 9
abbrev pub digit_9 : ℕ
digit_9 = 57

-- :
abbrev pub colon : ℕ
colon = 58

-- ;
abbrev pub semicolon : ℕ
semicolon = 59

-- =
abbrev pub equals_sign : ℕ
equals_sign = 61

-- >
abbrev pub greater_sign : ℕ
greater_sign = 62

-- A
abbrev pub capital_a : ℕ
capital_a = 65

-- Z
abbrev pub capital_z : ℕ
capital_z = 90

-- [
abbrev pub open_bracket : ℕ
open_bracket = 91

-- ]
abbrev pub close_bracket : ℕ
close_bracket = 93

-- a
abbrev pub letter_a : ℕ
letter_a = 97

-- b
abbrev pub letter_b : ℕ
letter_b = 98

-- c
abbrev pub letter_c : ℕ
letter_c = 99

-- f
abbrev pub letter_f : ℕ
letter_f = 102

-- g
abbrev pub letter_g : ℕ
letter_g = 103

-- k
abbrev pub letter_k : ℕ
letter_k = 107

-- p
abbrev pub letter_p : ℕ
letter_p = 112

-- r
abbrev pub letter_r : ℕ
letter_r = 114

-- s
abbrev pub letter_s : ℕ
letter_s = 115

-- v
abbrev pub letter_v : ℕ
letter_v = 118

-- x
abbrev pub letter_x : ℕ
letter_x = 120

-- z
abbrev pub letter_z : ℕ
letter_z = 122

-- {
abbrev pub open_brace : ℕ
open_brace = 123

-- |
abbrev pub bar : ℕ
bar = 124

-- }
abbrev pub close_brace : ℕ
close_brace = 125

-- ~, the last byte that prints
abbrev pub tilde : ℕ
tilde = 126
