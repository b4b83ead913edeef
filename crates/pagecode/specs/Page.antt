-- A page of a message: 01, The page, and The page code, third paragraph; ICD 2.4, 3 and 6.3.
-- Leans on the code.
use Rattle.std.specs.Prelude.{Bool, ◌&&◌, ◌||◌, List, [], ◌∷◌, ◌++◌, ℕ, zero, suc, ◌+◌, ◌-◌, ◌*◌, ◌/◌, ◌%◌, ◌^◌, eqb, leb, length, get_or, replicate}
use Rattle.pagecode.specs.Code.{codeword, coefficient}

-- f 0, f 1, .. f (n - 1)
unfoldable pub list_of : ℕ → (ℕ → ℕ) → List ℕ
list_of zero f = []
list_of (suc n) f = f 0 ∷ list_of n (λ i. f (suc i))

-- 01, The page code: "The octets of pages 1 to k at that place are c31, c30, .. in that order"; octet j of page i + 1 is octet 53 i + j of the message
unfoldable pub column : ℕ → ℕ → List ℕ → List ℕ
unfolding list_of
column k j m = list_of k (λ i. get_or m (i * 53 + j) 0)

-- "the remaining information octets are 0"
unfoldable pub filled : List ℕ → List ℕ
filled c = c ++ replicate (32 - length c) 0

-- "Page number p carries the coefficient of x^(255-p) of the code word"
unfoldable pub page_octet : List ℕ → ℕ → ℕ
unfolding codeword coefficient filled
page_octet c p = coefficient (255 - p) (codeword (filled c))

-- "Each of the 53 octet places is coded alone": the content of page p of a message of k pages
unfoldable pub content : ℕ → List ℕ → ℕ → List ℕ
unfolding list_of column page_octet
content k m p = list_of 53 (λ j. page_octet (column k j m) p)

-- 01, The page: "Legal page numbers for size k are 1 to k and 33 to 255"
unfoldable pub legal : ℕ → ℕ → Bool
legal k p = (leb 1 p && leb p k) || (leb 33 p && leb p 255)

-- 01, The page: the fields of the header. Kind is the type
pub record Header : Type 0 where
  pub status : ℕ
  pub reserved : ℕ
  pub kind : ℕ
  pub number : ℕ
  pub size : ℕ
  pub page : ℕ

-- "status 2, reserved 2, type 2, message number 5, size field 5 (size k = field + 1), page number 8": the 24 bits as a number
unfoldable pub header_bits : Header → ℕ
header_bits h = ((((h.status * 4 + h.reserved) * 4 + h.kind) * 32 + h.number) * 32 + (h.size - 1)) * 256 + h.page

-- its three octets
unfoldable pub header_octets : Header → List ℕ
unfolding header_bits
header_octets h = header_bits h / 65536 ∷ header_bits h / 256 % 256 ∷ header_bits h % 256 ∷ []

-- a page's first 24 bits
unfoldable pub first_bits : List ℕ → ℕ
first_bits page = get_or page 0 0 * 65536 + get_or page 1 0 * 256 + get_or page 2 0

-- w of 24 bits from bit `at` on; "Bits are numbered from 0, most significant first"
unfoldable pub bits_from : ℕ → ℕ → ℕ → ℕ
bits_from at w bits = bits / 2 ^ (24 - (at + w)) % 2 ^ w

-- the header that a page begins with
unfoldable pub header_of : List ℕ → Header
unfolding bits_from first_bits
header_of page = record {
  status = bits_from 0 2 (first_bits page);
  reserved = bits_from 2 2 (first_bits page);
  kind = bits_from 4 2 (first_bits page);
  number = bits_from 6 5 (first_bits page);
  size = bits_from 11 5 (first_bits page) + 1;
  page = bits_from 16 8 (first_bits page);
}

-- "Header AF3BC3 is a dummy page; it is tested before any field"
unfoldable pub is_dummy : List ℕ → Bool
unfolding first_bits
is_dummy page = eqb (first_bits page) 0xAF3BC3

-- 01, Encoding a page: "Reserved bits are written 0"; type 1
unfoldable pub encoded_page : List ℕ → ℕ → ℕ → ℕ → List ℕ
unfolding header_octets content
encoded_page m status number p =
    header_octets (record { status = status; reserved = 0; kind = 1; number = number; size = length m / 53; page = p }) ++ content (length m / 53) m p
