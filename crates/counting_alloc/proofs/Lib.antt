mod CountCalls
