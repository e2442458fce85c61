-- The line that restates an order, byte by byte.
use Rattle.std.specs.Prelude.{◌≡◌, ℕ, Bool, true, List, ◌++◌, length, codes, decimal, sum_by}
use Rattle.orders.specs.declared.order.Head.{Head}
use Rattle.orders.specs.declared.order.Item.{Item}

-- the sum of the ordered numbers
abbrev pub pieces_of : List Item → ℕ
pieces_of is = sum_by (λ i. i.ordered) is

-- `order JOB plate LENGTH WIDTH saw SAW trim TRIM`, the first line of the text restated
abbrev pub head_words : Head → List ℕ
head_words h =
    codes "order " ++ (decimal h.job ++ (codes " plate " ++ (decimal h.length ++ (codes " " ++ (decimal h.width ++ (codes " saw " ++ (decimal h.saw ++ (codes " trim " ++ decimal h.trim))))))))

-- ` lines LINES pieces PIECES` and byte 10
abbrev pub count_words : ℕ → ℕ → List ℕ
count_words lines pieces = codes " lines " ++ (decimal lines ++ (codes " pieces " ++ (decimal pieces ++ codes "\n")))

-- the order on one line: its first line, the number of its items, and how many pieces they ask for
abbrev pub order_line : Head → List Item → List ℕ
order_line h is = head_words h ++ count_words (length is) (pieces_of is)

-- where all went well, `after` is `before` with the bytes put behind it
abbrev pub Appended : Bool → List ℕ → List ℕ → List ℕ → Type 0
Appended ok before bytes after = ok ≡ true → after ≡ before ++ bytes
