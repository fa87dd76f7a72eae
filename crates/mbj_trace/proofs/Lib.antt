mod TraceLines
