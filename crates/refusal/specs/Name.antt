-- The names of the refusals: 01, Refusal numbers. Kind is TYPE of the table.
-- Leans on nothing. A name is the ASCII codes of its capital letters; the small letters stand for these here.
use Rattle.std.specs.Prelude.{ℕ, ◌-◌, List, [], ◌∷◌, ◌++◌, length, replicate}
use Rattle.refusal.specs.declared.Refusal.{Refusal}
use Rattle.refusal.specs.declared.Refusal.TheVariants.{Length, Out, Second, Clock, Dummy, Stop, Status, Kind, PageNumber, Done, Repeat, Conflict, Full, Timeout, Id, Toh, Mask, Short, Count, System, Twice, NavMsg, Validity, Form, Long}

abbrev a : ℕ
a = 65

abbrev b : ℕ
b = 66

abbrev c : ℕ
c = 67

abbrev d : ℕ
d = 68

abbrev e : ℕ
e = 69

abbrev f : ℕ
f = 70

abbrev g : ℕ
g = 71

abbrev h : ℕ
h = 72

abbrev i : ℕ
i = 73

abbrev k : ℕ
k = 75

abbrev l : ℕ
l = 76

abbrev m : ℕ
m = 77

abbrev n : ℕ
n = 78

abbrev o : ℕ
o = 79

abbrev p : ℕ
p = 80

abbrev r : ℕ
r = 82

abbrev s : ℕ
s = 83

abbrev t : ℕ
t = 84

abbrev u : ℕ
u = 85

abbrev v : ℕ
v = 86

abbrev w : ℕ
w = 87

abbrev y : ℕ
y = 89

abbrev pub letters_of : Refusal → List ℕ
letters_of Length = l ∷ e ∷ n ∷ g ∷ t ∷ h ∷ []
letters_of Out = o ∷ u ∷ t ∷ []
letters_of Second = s ∷ e ∷ c ∷ o ∷ n ∷ d ∷ []
letters_of Clock = c ∷ l ∷ o ∷ c ∷ k ∷ []
letters_of Dummy = d ∷ u ∷ m ∷ m ∷ y ∷ []
letters_of Stop = s ∷ t ∷ o ∷ p ∷ []
letters_of Status = s ∷ t ∷ a ∷ t ∷ u ∷ s ∷ []
letters_of Kind = t ∷ y ∷ p ∷ e ∷ []
letters_of PageNumber = p ∷ a ∷ g ∷ e ∷ n ∷ u ∷ m ∷ b ∷ e ∷ r ∷ []
letters_of Done = d ∷ o ∷ n ∷ e ∷ []
letters_of Repeat = r ∷ e ∷ p ∷ e ∷ a ∷ t ∷ []
letters_of Conflict = c ∷ o ∷ n ∷ f ∷ l ∷ i ∷ c ∷ t ∷ []
letters_of Full = f ∷ u ∷ l ∷ l ∷ []
letters_of Timeout = t ∷ i ∷ m ∷ e ∷ o ∷ u ∷ t ∷ []
letters_of Id = i ∷ d ∷ []
letters_of Toh = t ∷ o ∷ h ∷ []
letters_of Mask = m ∷ a ∷ s ∷ k ∷ []
letters_of Short = s ∷ h ∷ o ∷ r ∷ t ∷ []
letters_of Count = c ∷ o ∷ u ∷ n ∷ t ∷ []
letters_of System = s ∷ y ∷ s ∷ t ∷ e ∷ m ∷ []
letters_of Twice = t ∷ w ∷ i ∷ c ∷ e ∷ []
letters_of NavMsg = n ∷ a ∷ v ∷ m ∷ s ∷ g ∷ []
letters_of Validity = v ∷ a ∷ l ∷ i ∷ d ∷ i ∷ t ∷ y ∷ []
letters_of Form = f ∷ o ∷ r ∷ m ∷ []
letters_of Long = l ∷ o ∷ n ∷ g ∷ []

-- ten octets: the letters, and spaces behind them
abbrev pub name_of : Refusal → List ℕ
name_of r = letters_of r ++ replicate (10 - length (letters_of r)) 32
