use Rattle.std.proofs.Common.{◌/◌, ◌%◌, ◌^◌, arith}
use Rattle.doubles.proofs.Squares.{Halves, halves, pinned, fails_1, fails_2, fails_3, fails-4, fails-5, fails-6}
use Rattle.doubles.proofs.root.is_nearest_root.Goals as goal

pub returns-then-n-a : goal.returns-then-n-a
returns-then-n-a c = let split : Halves c.args.q (c.args.q / 2 ^ 27) (c.args.q % 2 ^ 27) = halves c.args.q c.requires.1 in
    fails_1 _ _ _ _ split c.if-n-a.true

pub returns-then-d-ge1073741824 : goal.returns-then-d-ge1073741824
returns-then-d-ge1073741824 c = let split : Halves c.args.q (c.args.q / 2 ^ 27) (c.args.q % 2 ^ 27) = halves c.args.q c.requires.1 in
    fails_2 _ _ _ _ split c.if-d-ge1073741824.true

pub returns-then-e-b : goal.returns-then-e-b
returns-then-e-b c = let split : Halves c.args.q (c.args.q / 2 ^ 27) (c.args.q % 2 ^ 27) = halves c.args.q c.requires.1 in
    fails_3 _ _ _ _ split c.if-n-a.false c.if-e-b.true

pub returns-then-f-ge4294967296 : goal.returns-then-f-ge4294967296
returns-then-f-ge4294967296 c = let split : Halves c.args.q (c.args.q / 2 ^ 27) (c.args.q % 2 ^ 27) = halves c.args.q c.requires.1 in
    fails-4 _ _ _ _ split c.if-n-a.false c.if-e-b.false c.if-f-ge4294967296.true

pub returns-then-g-c : goal.returns-then-g-c
returns-then-g-c c = let split : Halves c.args.q (c.args.q / 2 ^ 27) (c.args.q % 2 ^ 27) = halves c.args.q c.requires.1 in
    fails-5 _ _ _ _ split c.if-n-a.false c.if-e-b.false
    (omega arith)

pub returns-then-q-g : goal.returns-then-q-g
returns-then-q-g c = let split : Halves c.args.q (c.args.q / 2 ^ 27) (c.args.q % 2 ^ 27) = halves c.args.q c.requires.1 in
    fails-6 _ _ _ _ split c.if-n-a.false
    c.if-e-b.false (omega arith)

pub returns : goal.returns
returns c = let split : Halves c.args.q (c.args.q / 2 ^ 27) (c.args.q % 2 ^ 27) = halves c.args.q c.requires.1 in
    pinned _ _ _ _ split c.if-n-a.false
    c.if-e-b.false (omega arith) (omega arith)
